-- What one sample does, in other words than the definitions': integers in place of words, a timer by itself.
-- Assumes nothing.
use Rattle.std.specs.Prelude.{ℕ, ◌+◌, ◌≤◌, Bool, true, cond, ◌≡◌, ℤ, pos}
use Rattle.std.specs.Int.Signed.{lt_z}
use Rattle.clock.specs.Broadcast.{sampled_of}
use Rattle.clock.specs.Sample.{elapsed_of, moved_of}
use Rattle.pack.specs.declared.Pack.{Pack}
use Rattle.pack.specs.declared.Sample.{Sample}

-- an integer held between 0 and most
abbrev pub held_to : ℤ → ℤ → ℤ
held_to most z = cond (lt_z z (pos 0)) (pos 0) (cond (lt_z most z) most z)

-- what elapsed before a sample
abbrev pub gap : Pack → Sample → ℕ
gap p x = elapsed_of x.counter p.latest.counter

-- words that go by a timer: a sample raises it by what elapsed at the most, they go only where that brings it to its mark, and then it restarts
pub record Timed (goes : Pack → Bool) (mark : ℕ) (timer : Pack → ℕ) : Type 0 where
  pub rises : (p : Pack) (x : Sample) → timer (sampled_of p x) ≤ timer p + gap p x
  pub marked : (p : Pack) (x : Sample) → goes (moved_of p x) ≡ true → mark ≤ timer p + gap p x
  pub restarts : (p : Pack) (x : Sample) → goes (moved_of p x) ≡ true → timer (sampled_of p x) ≡ 0
