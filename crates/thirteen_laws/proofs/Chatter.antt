-- Reads and refused calls can be struck out of the events of a thirteen-cell pack.
-- Assumes nothing.
use Prim.Native.Nat.{ℕ}
use mathlib.Core.Bool.{true, not, ◌||◌, true≢false}
use mathlib.Core.List.{List}
use mathlib.Core.Path.{◌≡◌, refl, sym, ap, ap₂, ◌∙◌}
use lib.Dec.{eqb}
use Rattle.chatter.proofs.Chatter as chatter
use Rattle.chatter.specs.Promises.{StepLaw}
use Rattle.commands.specs.Answers.{Side, side_answer, served, side_reply}
use Rattle.pack.specs.declared.Sample.{Sample}
use Rattle.thirteen.specs.Transact.{thirteen_side, asked, transact_answer, transact_reply, transact_of}
use Rattle.thirteen_laws.proofs.Sound.{goes_on, step_sound, sound_when_served}
use Rattle.thirteen_laws.specs.Chatter.{answer_to, reply_to, is_idle, SameBut, thirteen_party, ChatterIsIdle}
use Rattle.thirteen_laws.specs.Events.{Call, answer, reply, Event, sample, call, step}
use Rattle.thirteen_laws.specs.Since.{from_set_up}
use Rattle.thirteen_pack.specs.Sample.{sampled_of, sample_of}
use Rattle.thirteen_pack.specs.Sound.{sound_of}
use Rattle.thirteen_pack.specs.declared.Thirteen.{Thirteen}
use Rattle.thirteen_pack.specs.declared.ThirteenState.{ThirteenState}

-- on a sound state every sample is accepted
accepted : (s : ThirteenState) (x : Sample) (cells : List ℕ) → sound_of s ≡ true → (sample_of s x cells).answer ≡ 0
unfolding sample_of
accepted s x cells h = simp h

-- both have one side on the bus
one_side : (s t : ThirteenState) → SameBut s t → thirteen_side s ≡ thirteen_side t
one_side s t h = simp (h.pack, h.sound_first, h.sound_second)

module _ (s t : ThirteenState) (h : SameBut s t) where
  call-answer : (c : Call) → answer s c ≡ answer t c
  unfolding transact_answer
  call-answer c = ap (λ (d : Side). side_answer d (asked c.read c.bytes) c.room) (one_side s t h)

  call-reply : (c : Call) → reply s c ≡ reply t c
  unfolding transact_reply
  call-reply c = ap₂ (λ (d : Side) (n : ℕ). side_reply d c.bytes (asked c.read c.bytes) n) (one_side s t h) (call-answer c)

  same_answer : (e : Event) → answer_to s e ≡ answer_to t e
  same_answer (sample x cells) = accepted s x cells h.sound_first ∙ sym (accepted t x cells h.sound_second)
  same_answer (call c) = call-answer c

  same-reply : (e : Event) → reply_to s e ≡ reply_to t e
  same-reply (sample x cells) = refl
  same-reply (call c) = call-reply c

  same-idle : (e : Event) → is_idle s e ≡ is_idle t e
  same-idle (sample x cells) = ap (λ (n : ℕ). not (eqb n 0)) (same_answer (sample x cells))
  same-idle (call c) = ap (λ (n : ℕ). c.read || not (served n)) (call-answer c)

  same-pack : (e : Event) → (step s e).pack ≡ (step t e).pack
  unfolding transact_of
  same-pack (sample x cells) =
      ap (λ (u : ThirteenState). u.pack) (goes_on s x cells h.sound_first)
      ∙ ap (λ (p : Thirteen). sampled_of p x cells) h.pack ∙ sym (ap (λ (u : ThirteenState). u.pack) (goes_on t x cells h.sound_second))
  same-pack (call c) = h.pack

  -- on a sound state every sample is accepted, and no call changes the pack
  idle-pack : (e : Event) → is_idle s e ≡ true → (step s e).pack ≡ t.pack
  unfolding transact_of
  idle-pack (sample x cells) i = absurd (true≢false (sym i ∙ ap (λ (n : ℕ). not (eqb n 0)) (accepted s x cells h.sound_first)))
  idle-pack (call c) i = h.pack

step_law : StepLaw thirteen_party
step_law =
    record {
      keeps = λ s t e h i. record { pack = idle-pack s t h e i; sound_first = step_sound s e h.sound_first; sound_second = h.sound_second };
      gives = λ s t e h. (same_answer s t h e, same-reply s t h e);
      idle = λ s t e h. same-idle s t h e;
      leaves = λ s t e h. record { pack = same-pack s t h e; sound_first = step_sound s e h.sound_first; sound_second = step_sound t e h.sound_second };
    }

pub chatter_is_idle : ChatterIsIdle
chatter_is_idle u health first cells es fs a r =
    let s = from_set_up u health first cells in
    let k : sound_of s ≡ true = sound_when_served u health first cells ∙ ap (λ (n : ℕ). eqb n 0) a in
    chatter.chatter_is_idle thirteen_party step_law s s es fs r (record { pack = refl; sound_first = k; sound_second = k })
