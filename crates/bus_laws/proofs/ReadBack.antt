-- What is written is read back, and the others of 00 to 04 are as they were.
-- Assumes nothing.
use Prim.Native.Nat.{ℕ, zero, suc, ◌+◌, ◌*◌, ◌/◌, ◌%◌, ◌≤◌, ◌<◌}
use mathlib.Core.Bool.{Bool, true, false, cond, ◌||◌, true≢false}
use mathlib.Core.Path.{◌≡◌, refl, sym, ap, ap₂, ◌∙◌}
use native.Mathlib.Omega.{arith}
use borrow.Author.Tests.{ne_eqb, le-leb, leb-true}
use lib.Dec.{leb, eqb}
use Rattle.bus.proofs.Answers.{by-outcome}
use Rattle.bus.specs.Transact.{pack_side, pack_after, transact_of}
use Rattle.commands.specs.declared.Transacted.{Transacted}
use Rattle.bus_laws.proofs.Exchanges.{served_reply}
use Rattle.bus_laws.proofs.Served.{past_two, read-answer, writes_asked, write-answer}
use Rattle.bus_laws.specs.Calls.{answer, kept_word}
use Rattle.bus_laws.specs.Promises.{WrittenRead, ThreeBits, OthersStay, ModeConvertsNothing}
use Rattle.commands.specs.Answers.{read_answer, write_answer, served, code_after, read_body}
use Rattle.commands.specs.Commands.{from, kind_of}
use Rattle.commands.specs.declared.Kind.{Kind}
use Rattle.commands.specs.declared.Kind.TheVariants.{ReadWrite, ReadOnly, Block, Optional, Reserved}
use Rattle.frame.specs.Transactions.{reply_of, word_body}
use Rattle.frame.specs.declared.Request.{Request}
use Rattle.frame.specs.declared.Request.TheVariants.{Write}
use Rattle.gauge.specs.Word.{given_of, word_of, word_answer}
use Rattle.gauge_laws.proofs.Minutes.{ten_exactly}
use Rattle.gauge_laws.proofs.Words as words
use Rattle.pack.specs.Sound.{sound_of}
use Rattle.pack.specs.declared.Pack.{Pack}
use Rattle.pack.specs.declared.State.{State}
use Rattle.registers.specs.Registers.{bit}
use Rattle.written.specs.Written.{bit_set, host_written, pack_written}

-- ---- a served write is one to 00 to 04

others : (a b d : Bool) → served (write_answer (cond a ReadOnly (cond b Block (cond d Optional Reserved)))) ≡ false
others true b d = refl
others false true d = refl
others false false true = refl
others false false false = refl

past_five : (command : ℕ) → leb command 4 ≡ false → served (write_answer (kind_of command)) ≡ false
unfolding kind_of
past_five command e = simp (e, le-leb 0 command (omega arith)) (others (from 0x05 0x1C command) (from 0x20 0x23 command) (eqb command 0x2F || from 0x3C 0x3F command))

first_five : (command : ℕ) → served (write_answer (kind_of command)) ≡ true → command ≤ 4
first_five command v = go (leb command 4) refl
  where
    go : (b : Bool) → leb command 4 ≡ b → command ≤ 4
    go true e = leb-true _ _ e
    go false e = absurd (true≢false (sym v ∙ past_five command e))

five_rows : (command : ℕ) → command ≤ 4 → kind_of command ≡ ReadWrite
unfolding kind_of
five_rows command l = simp (le-leb 0 command (omega arith), le-leb command 4 l)

-- a read of these is answered 0
answered : (s : State) (command : ℕ) → command ≤ 4 → word_answer s command ≡ 0
answered s command l = ten_exactly s command ∙ simp (other 0x05 (omega arith), other 0x06 (omega arith), other 0x11 (omega arith), other 0x12 (omega arith), other 0x13 (omega arith))
  where
    other : (key : ℕ) → 5 ≤ key → eqb command key ≡ false
    other key h = ne_eqb command key (λ e. omega (arith, l, h, e))

-- ---- the word that a register keeps

kept : (p : Pack) (code command word : ℕ) → command ≤ 4 → word_of (record { error = code; pack = pack_written p command word }) command ≡ kept_word command word
unfolding given_of pack_written host_written
kept p code zero word l = refl
kept p code (suc zero) word l = refl
kept p code (suc (suc zero)) word l = refl
kept p code (suc (suc (suc zero))) word l = refl
kept p code (suc (suc (suc (suc zero)))) word l = refl
kept p code (suc (suc (suc (suc (suc n))))) word l = absurd (omega (arith, l))

-- of 03 the bits 13 to 15: the word without its low thirteen bits
digit : (d weight : ℕ) → d < 2 → cond (eqb d 1) weight 0 ≡ d * weight
digit zero weight h = omega arith
digit (suc zero) weight h = omega arith
digit (suc (suc d)) weight h = absurd (omega (arith, h))

sum : (q r t : ℕ) → q < 8 → r ≡ q / 2 → t ≡ r / 2 → q % 2 * 8192 + r % 2 * 16384 + t % 2 * 32768 ≡ q * 8192
sum q r t h e f = omega arith

pub three_bits : ThreeBits
three_bits word h =
    let a : bit 13 (bit_set 13 word) ≡ word / 8192 % 2 * 8192 = digit (word / 8192 % 2) 8192 (omega arith) in
    let b : bit 14 (bit_set 14 word) ≡ word / 16384 % 2 * 16384 = digit (word / 16384 % 2) 16384 (omega arith) in
    let d : bit 15 (bit_set 15 word) ≡ word / 32768 % 2 * 32768 = digit (word / 32768 % 2) 32768 (omega arith) in
    ap₂ ◌+◌ (ap₂ ◌+◌ a b) d ∙ sum (word / 8192) (word / 16384) (word / 32768) (omega arith) (omega arith) (omega arith)

pub written_read : WrittenRead
written_read s w t r command word writes taken sound pack-left reads room =
    served_reply t r command reads given
    ∙ ap (λ (k : Kind). reply_of r.bytes (read_body (pack_side t r.service r.factory) command k)) row
    ∙ ap (λ (x : ℕ). reply_of r.bytes (word_body x)) word_kept
  where
    two : (sound_of s ≡ true) × (34 ≤ w.room)
    two = past_two s w taken

    served-row : served (write_answer (kind_of command)) ≡ true
    served-row = ap (λ (n : ℕ). served n) (sym (write-answer s w command word two.0 two.1 writes)) ∙ taken

    five : command ≤ 4
    five = first_five command served-row

    row : kind_of command ≡ ReadWrite
    row = five_rows command five

    given : served (answer t r) ≡ true
    given =
        ap (λ (n : ℕ). served n)
        (read-answer t r command sound room reads ∙ ap (λ (k : Kind). read_answer (pack_side t r.service r.factory) command k) row ∙ answered t command five)

    pack-kept : t.pack ≡ pack_written s.pack command word
    pack-kept =
        pack-left
        ∙ ap (λ (o : Transacted State). o.state.pack)
        (by-outcome s w.service w.factory w.read w.bytes w.room (Write command word writes.1.0) two.0 two.1 (writes_asked w command word writes))
        ∙ ap (λ (b : Bool). cond b (pack_written s.pack command word) s.pack) served-row

    word_kept : word_of t command ≡ kept_word command word
    word_kept = ap (λ (p : Pack). word_of (record { error = t.error; pack = p }) command) pack-kept ∙ kept s.pack t.error command word five

-- ---- the others of 00 to 04 are as they were

other_words : (p : Pack) (code left written word command : ℕ) → command ≤ 4 → (command ≡ written → ⊥)
    → word_of (record { error = left; pack = pack_written p written word }) command ≡ word_of (record { error = code; pack = p }) command
unfolding given_of pack_written host_written
other_words p code left written word zero l n = simp (ne_eqb written 0 (λ e. n (sym e)))
other_words p code left written word (suc zero) l n = simp (ne_eqb written 1 (λ e. n (sym e)))
other_words p code left written word (suc (suc zero)) l n = simp (ne_eqb written 2 (λ e. n (sym e)))
other_words p code left written word (suc (suc (suc zero))) l n = simp (ne_eqb written 3 (λ e. n (sym e)))
other_words p code left written word (suc (suc (suc (suc zero)))) l n = simp (ne_eqb written 4 (λ e. n (sym e)))
other_words p code left written word (suc (suc (suc (suc (suc m))))) l n = absurd (omega (arith, l))

same_words : (p : Pack) (code left command : ℕ) → command ≤ 4 → word_of (record { error = left; pack = p }) command ≡ word_of (record { error = code; pack = p }) command
same_words p code left command l = words.other_words _ _ command refl (λ e. omega (arith, e, l))

pub others_stay : OthersStay
unfolding transact_of
others_stay s c written word command w l n =
    ap (λ (q : Request). word_of (record { error = left; pack = pack_after s.pack q (answer s c) }) command) (writes_asked c written word w)
    ∙ by_answer (served (answer s c))
  where
    left : ℕ
    left = code_after (answer s c) s.error

    by_answer : (v : Bool) → word_of (record { error = left; pack = cond v (pack_written s.pack written word) s.pack }) command ≡ word_of s command
    by_answer true = other_words s.pack s.error left written word command l n
    by_answer false = same_words s.pack s.error left command l

pub mode_converts_nothing : ModeConvertsNothing
mode_converts_nothing s c word command w l n = others_stay s c 0x03 word command w l n
