-- Every command byte has its row, and which answers come.
-- Assumes nothing.
use Prim.Native.Nat.{ℕ, ◌≤◌, ◌<◌}
use mathlib.Core.Bool.{Bool, true, false, cond, not, or-false}
use mathlib.Core.Path.{◌≡◌, refl, sym, ap, ◌∙◌, subst}
use native.Mathlib.Omega.{arith}
use lib.Dec.{eqb, ltb}
use lib.ListN.{get_or}
use Rattle.capacity.proofs.Bounds as choice
use Rattle.commands.specs.Answers.{bare, read_answer, write_answer, request_answer, side_answer}
use Rattle.commands.specs.declared.Kind.{Kind}
use Rattle.commands.specs.declared.Kind.TheVariants.{ReadOnly, Block, Optional, Reserved}
use Rattle.commands_laws.proofs.Visits as visits
use Rattle.frame.specs.declared.Request.{Request}
use Rattle.frame.specs.declared.Request.TheVariants.{Refused, Read, Write}
use Rattle.frame_laws.proofs.Requests.{refused_number}
use Rattle.gauge_laws.proofs.Minutes.{at}
use Rattle.minutes.proofs.Laws as minutes
use Rattle.minutes.specs.Minutes.{given_answer}
use Rattle.rooms.proofs.Choice.{chosen}
use Rattle.thirteen.specs.Commands.{is_word, is_not_built, thirteen_kind}
use Rattle.thirteen.specs.Transact.{thirteen_side, asked, transact_answer}
use Rattle.thirteen_laws.specs.Events.{Call, answer, visit, Reads}
use Rattle.thirteen_laws.specs.Promises.{CutOffExactly, ReadRow, WriteRow, BareWrite, NeverComes, OtherAddresses}
use Rattle.thirteen_laws.specs.Rows.{is_cut_off, read_rows}
use Rattle.thirteen_pack.specs.Sound.{sound_of}
use Rattle.thirteen_pack.specs.declared.Thirteen.{Thirteen}
use Rattle.thirteen_pack.specs.declared.ThirteenState.{ThirteenState}
use Rattle.thirteen_words.specs.Word.{given_of, word_answer}

pub cut_off_exactly : CutOffExactly
unfolding given_of
cut_off_exactly p command =
    at P command 0x11 (simp (minutes.cut_off_exactly, or-false))
    (λ a. at P command 0x13 (simp minutes.cut_off_exactly)
    (λ b. simp (a, b, choice.chosen given_answer, choice.alike)))
  where
    P : ℕ → Type 0
    P n = given_answer (given_of p n) ≡ cond (is_cut_off p n) 10 0

-- ---- rows

rows_by_cut : (p : Thirteen) → read_rows (λ n. word_answer p n) ≡ read_rows (λ n. cond (is_cut_off p n) 10 0)
rows_by_cut p = simp (cut_off_exactly p)

in_rows : (s : ThirteenState) (c : Call) (command : ℕ) → command < 256 → sound_of s ≡ true → 34 ≤ c.room → Reads c command
    → answer s c ≡ get_or (read_rows (λ n. word_answer s.pack n)) command 0
unfolding transact_answer thirteen_kind given_of
in_rows s c command l sound room r = visits.read_in_rows (visit s c) command _ refl l (sound, room) r

pub read_row : ReadRow
read_row s c command l sound room r = in_rows s c command l sound room r ∙ ap (λ rows. get_or rows command 0) (rows_by_cut s.pack)

pub write_row : WriteRow
unfolding transact_answer thirteen_kind
write_row s c command word l sound room w = visits.write_in_rows (visit s c) command word true _ refl l (sound, room) w

pub bare_write : BareWrite
unfolding transact_answer
bare_write s c command word sound room w = visits.write_by_row (visit s c) command word false (sound, room) w

pub other_addresses : OtherAddresses
unfolding transact_answer
other_addresses s c address rest sound room b n = visits.other_address (visit s c) address rest (sound, room) b n

-- ---- which answers come

abbrev Few : ℕ → Type 0
Few n = (n ≤ 10) × (n ≡ 9 → ⊥)

few : (n : ℕ) → n ≤ 8 → Few n
few n h = (omega (arith, h), λ e. omega (arith, h, e))

ten : Few 10
ten = (omega arith, λ e. omega (arith, e))

-- what holds of each row holds of a command's
pub by_row : (P : Kind → Type 0) (command : ℕ) → (is_word command ≡ true → P ReadOnly) → P Block → P Optional → P Reserved → P (thirteen_kind command)
unfolding thirteen_kind
by_row P command word block optional reserved =
    chosen P (is_word command) word
    (λ e. chosen P (eqb command 0xF1) (λ f. block) (λ f. chosen P (is_not_built command) (λ g. optional) (λ g. reserved)))

few_read : (s : ThirteenState) (command : ℕ) → Few (read_answer (thirteen_side s) command (thirteen_kind command))
few_read s command =
    by_row (λ k. Few (read_answer (thirteen_side s) command k)) command
    (λ e. subst Few (sym (cut_off_exactly s.pack command)) (choice.either Few (is_cut_off s.pack command) 10 0 ten (few 0 (omega arith))))
    (few 0 (omega arith)) (few 7 (omega arith)) (few 6 (omega arith))

few_write : (command : ℕ) → Few (write_answer (thirteen_kind command))
few_write command =
    by_row (λ k. Few (write_answer k)) command (λ e. few 8 (omega arith)) (few 8 (omega arith)) (few 7 (omega arith)) (few 6 (omega arith))

pub never_comes : NeverComes
unfolding transact_answer side_answer
never_comes s c =
    chosen Few (not (sound_of s)) (λ e. few 1 (omega arith))
    (λ e. chosen Few (ltb c.room 34) (λ f. few 2 (omega arith)) (λ f. go (asked c.read c.bytes) refl))
  where
    go : (q : Request) → asked c.read c.bytes ≡ q → Few (request_answer (thirteen_side s) q)
    go (Refused n) e = few n (omega (arith, (refused_number 0x16 c.read c.bytes n e).1))
    go (Read command) e = few_read s command
    go (Write command word checked) e = chosen Few (bare (thirteen_side s) checked) (λ f. few 4 (omega arith)) (λ f. few_write command)
