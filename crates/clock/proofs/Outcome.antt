-- What holds of a sample's refusals and of a served sample holds of every sample.
-- Assumes nothing.
use Rattle.std.proofs.Common.{◌≡◌, ℕ, Bool, true, false, cond, not, ltb, refl}
use Rattle.broadcasts.specs.Broadcasts.{least_room}
use Rattle.clock.specs.Broadcast.{sample_of, served_sample, refused_sample}
use Rattle.clock.specs.declared.Sampled.{Sampled}
use Rattle.pack.specs.Sound.{sound_of}
use Rattle.pack.specs.declared.Sample.{Sample}
use Rattle.pack.specs.declared.State.{State}

module _ (P : Sampled → Type 0) (s : State) (x : Sample) (n : ℕ) (one : P (refused_sample 1 s)) (two : P (refused_sample 2 s)) (served : sound_of s ≡ true → P (served_sample s x)) where
  room-or : (b : Bool) → sound_of s ≡ true → P (cond b (refused_sample 2 s) (served_sample s x))
  room-or true h = two
  room-or false h = served h

  sound-or : (b : Bool) → sound_of s ≡ b → P (cond (not b) (refused_sample 1 s) (cond (ltb n (least_room s.pack.settings.plain)) (refused_sample 2 s) (served_sample s x)))
  sound-or true h = room-or (ltb n (least_room s.pack.settings.plain)) h
  sound-or false h = one

  pub outcome : P (sample_of s x n)
  unfolding sample_of
  outcome = sound-or (sound_of s) refl
