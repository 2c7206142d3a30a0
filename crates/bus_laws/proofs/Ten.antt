-- Which right reads are answered 10.
-- Assumes nothing.
use Prim.Native.Nat.{ℕ}
use mathlib.Core.Bool.{Bool, true, false, cond}
use mathlib.Core.Path.{◌≡◌, refl, sym, ap, ◌∙◌}
use native.Mathlib.Omega.{arith}
use Rattle.bus.specs.Transact.{pack_side}
use Rattle.bus_laws.proofs.Blocks.{block_number}
use Rattle.bus_laws.proofs.Served.{read-answer}
use Rattle.bus_laws.specs.Calls.{answer}
use Rattle.bus_laws.specs.Promises.{TenAnswered}
use Rattle.commands.specs.Answers.{Side, read_answer}
use Rattle.commands.specs.Commands.{kind_of}
use Rattle.commands.specs.declared.Kind.{Kind}
use Rattle.commands.specs.declared.Kind.TheVariants.{ReadWrite, ReadOnly, WriteOnly, Block, Optional, Reserved}
use Rattle.gauge_laws.proofs.Minutes.{ten_exactly, of_five}
use Rattle.gauge_laws.specs.Minutes.{is_ten}
use Rattle.pack.specs.declared.Pack.{Pack}
use Rattle.sheet.specs.Block.{good_sheets}

no_nine : (good : Bool) → ◌≡◌ {A = ℕ} (cond good 0 9) 10 → ⊥
no_nine true h = omega (arith, h)
no_nine false h = omega (arith, h)

no_zero : (b : Bool) → ◌≡◌ {A = ℕ} (cond b 10 0) 10 → b ≡ true
no_zero true h = refl
no_zero false h = absurd (omega (arith, h))

-- only a word that is read only is answered 10
pub ten_read_only : (p : Pack) (command : ℕ) → is_ten p command ≡ true → kind_of command ≡ ReadOnly
unfolding kind_of
ten_read_only p command h = of_five (λ n. kind_of n ≡ ReadOnly) p command h refl refl refl refl refl

pub ten_answered : TenAnswered
ten_answered s c command sound room r = (λ h. by_kind (kind_of command) (sym row ∙ h), λ h. row ∙ ap (read_answer side command) (ten_read_only s.pack command h) ∙ word ∙ ap (λ (b : Bool). cond b 10 0) h)
  where
    side : Side
    side = pack_side s c.service c.factory

    row : answer s c ≡ read_answer side command (kind_of command)
    row = read-answer s c command sound room r

    word : side.word_answer command ≡ cond (is_ten s.pack command) 10 0
    word = ten_exactly s command

    by_kind : (k : Kind) → read_answer side command k ≡ 10 → is_ten s.pack command ≡ true
    by_kind Reserved h = absurd (omega (arith, h))
    by_kind Optional h = absurd (omega (arith, h))
    by_kind WriteOnly h = absurd (omega (arith, h))
    by_kind Block h = absurd (no_nine (good_sheets c.service c.factory) (sym (block_number c.service c.factory) ∙ h))
    by_kind ReadOnly h = no_zero (is_ten s.pack command) (sym word ∙ h)
    by_kind ReadWrite h = no_zero (is_ten s.pack command) (sym word ∙ h)
