-- One event: two sound states that are the same but for the error code give the same, and stay the same but for it; an idle event leaves the pack.
-- Assumes nothing.
use Prim.Native.Nat.{ℕ, ◌<◌}
use mathlib.Core.Bool.{Bool, true, false, cond, not, ◌||◌}
use mathlib.Core.List.{List, []}
use mathlib.Core.Path.{◌≡◌, refl, sym, ap, ap₂, ◌∙◌}
use native.Mathlib.Omega.{arith}
use lib.Dec.{eqb, ltb}
use lib.ListN.{length}
use Rattle.bus.proofs.Answers.{refused_no_reply}
use Rattle.bus.specs.Transact.{pack_side, pack_after, asked, transact_answer, transact_reply, transact_of}
use Rattle.bus_laws.proofs.Exchanges.{served_reply}
use Rattle.bus_laws.specs.Calls.{Call, result, answer, reply, Reads}
use Rattle.broadcasts.specs.Broadcasts.{broadcast_of, messages_of, least_room}
use Rattle.clock.specs.Broadcast.{sampled_of, sample_of, served_sample, refused_sample}
use Rattle.clock.specs.Sample.{moved_of}
use Rattle.commands.specs.Answers.{read_answer, request_answer, side_answer, served, read_body, side_reply}
use Rattle.commands.specs.Commands.{kind_of}
use Rattle.commands.specs.declared.Kind.{Kind}
use Rattle.commands.specs.declared.Kind.TheVariants.{ReadWrite, ReadOnly, WriteOnly, Block, Optional, Reserved}
use Rattle.frame_laws.proofs.Requests.{read_is}
use Rattle.frame.specs.Transactions.{reply_of, word_body}
use Rattle.frame.specs.declared.Request.{Request}
use Rattle.frame.specs.declared.Request.TheVariants.{Refused, Read, Write}
use Rattle.gauge_laws.proofs.Minutes.{same_answer}
use Rattle.gauge_laws.proofs.Words.{other_words, status_above_code}
use Rattle.pack.proofs.Soundness.{code_of_sound}
use Rattle.pack.specs.declared.Pack.{Pack}
use Rattle.pack.specs.declared.Sample.{Sample}
use Rattle.pack.specs.declared.State.{State}
use Rattle.runs.proofs.Histories.{step_sound, idle_keeps}
use Rattle.runs.specs.Events.{Event, sample, call, step, is_idle, IdleEvent, sent}
use Rattle.runs.specs.Promises.{PackStep}
use Rattle.runs.specs.Struck.{SameBut, SameReply, Same}

module _ (s t : State) (h : SameBut s t) where
  -- ---- a sample

  by-room : (x : Sample) (b : Bool)
      → let r = cond b (refused_sample 2 s) (served_sample s x) in
      let q = cond b (refused_sample 2 t) (served_sample t x) in
      (r.answer ≡ q.answer) × (r.state.pack ≡ q.state.pack) × (r.length ≡ q.length) × (r.messages ≡ q.messages)
  by-room x true = (refl, h.pack, refl, refl)
  by-room x false = (
    refl,
    ap (λ (p : Pack). sampled_of p x) h.pack,
    ap (λ (p : Pack). length (broadcast_of (moved_of p x))) h.pack,
    ap (λ (p : Pack). length (messages_of (moved_of p x))) h.pack,
  )

  same_sample : (x : Sample) (n : ℕ)
      → let r = sample_of s x n in
      let q = sample_of t x n in
      (r.answer ≡ q.answer) × (r.state.pack ≡ q.state.pack) × (r.length ≡ q.length) × (r.messages ≡ q.messages)
  unfolding sample_of
  same_sample x n =
      simp (h.sound_first, h.sound_second, ap (λ (p : Pack). least_room p.settings.plain) h.pack) (by-room x (ltb n (least_room t.pack.settings.plain)))

  sample-sent : (x : Sample) (n : ℕ) → sent s (sample x n) ≡ sent t (sample x n)
  sample-sent x n = ap₂ (λ (a : ℕ) (p : Pack). cond (eqb a 0) (broadcast_of (moved_of p x)) []) (same_sample x n).0 h.pack

  -- ---- a transaction

  row-answer : (c : Call) (command : ℕ) (k : Kind) → read_answer (pack_side s c.service c.factory) command k ≡ read_answer (pack_side t c.service c.factory) command k
  row-answer c command Block = refl
  row-answer c command ReadOnly = same_answer s t command h.pack
  row-answer c command ReadWrite = same_answer s t command h.pack
  row-answer c command WriteOnly = refl
  row-answer c command Optional = refl
  row-answer c command Reserved = refl

  request-answer : (c : Call) (q : Request) → request_answer (pack_side s c.service c.factory) q ≡ request_answer (pack_side t c.service c.factory) q
  request-answer c (Refused n) = refl
  request-answer c (Read command) = row-answer c command (kind_of command)
  request-answer c (Write command word checked) = refl

  call-answer : (c : Call) → answer s c ≡ answer t c
  unfolding transact_answer side_answer
  call-answer c =
      ap₂ (λ (sound : Bool) (n : ℕ). cond (not sound) 1 (cond (ltb c.room 34) 2 n)) (h.sound_first ∙ sym h.sound_second) (request-answer c (asked c.read c.bytes))

  call-pack : (c : Call) → (result s c).state.pack ≡ (result t c).state.pack
  unfolding transact_of
  call-pack c = ap₂ (λ (p : Pack) (n : ℕ). pack_after p (asked c.read c.bytes) n) h.pack (call-answer c)

  -- what a read shows, but of BatteryStatus
  same_body : (c : Call) (command : ℕ) → (command ≡ 0x16 → ⊥) → (k : Kind)
      → read_body (pack_side s c.service c.factory) command k ≡ read_body (pack_side t c.service c.factory) command k
  same_body c command n Block = refl
  same_body c command n ReadOnly = ap word_body (other_words s t command h.pack n)
  same_body c command n ReadWrite = ap word_body (other_words s t command h.pack n)
  same_body c command n WriteOnly = refl
  same_body c command n Optional = refl
  same_body c command n Reserved = refl

  other-reply : (c : Call) → (Reads c 0x16 → ⊥) → reply s c ≡ reply t c
  unfolding transact_reply
  other-reply c no-status = go (asked c.read c.bytes) refl
    where
      go : (q : Request) → asked c.read c.bytes ≡ q
          → side_reply (pack_side s c.service c.factory) c.bytes q (answer s c) ≡ side_reply (pack_side t c.service c.factory) c.bytes q (answer t c)
      go (Refused m) e = refl
      go (Write command word checked) e = refl
      go (Read command) e =
          ap₂ (λ (m : ℕ) (body : List ℕ). cond (served m) (reply_of c.bytes body) []) (call-answer c)
          (same_body c command (λ i. no-status ((read_is 0x16 c.read c.bytes 0x16).0 (e ∙ ap Read i))) (kind_of command))

  -- a word is as long as any other
  body-length : (c : Call) (command : ℕ) (k : Kind)
      → length (reply_of c.bytes (read_body (pack_side s c.service c.factory) command k))
      ≡ length (reply_of c.bytes (read_body (pack_side t c.service c.factory) command k))
  unfolding reply_of
  body-length c command Block = refl
  body-length c command ReadOnly = refl
  body-length c command ReadWrite = refl
  body-length c command WriteOnly = refl
  body-length c command Optional = refl
  body-length c command Reserved = refl

  call_length : (c : Call) → (result s c).length ≡ (result t c).length
  unfolding transact_of
  call_length c = go (asked c.read c.bytes)
    where
      served-length : (v : Bool) (xs ys : List ℕ) → length xs ≡ length ys → length (cond v xs []) ≡ length (cond v ys [])
      served-length true xs ys e = e
      served-length false xs ys e = refl

      go : (q : Request)
          → length (side_reply (pack_side s c.service c.factory) c.bytes q (answer s c))
          ≡ length (side_reply (pack_side t c.service c.factory) c.bytes q (answer t c))
      go (Refused m) = refl
      go (Write command word checked) = refl
      go (Read command) =
          served-length (served (answer s c)) _ _ (body-length c command (kind_of command))
          ∙ ap (λ (n : ℕ). length (cond (served n) (reply_of c.bytes (read_body (pack_side t c.service c.factory) command (kind_of command))) [])) (call-answer c)

  call-reply : (c : Call) → SameReply s t c
  unfolding kind_of
  call-reply c =
      let first : s.error < 16 = omega (arith, code_of_sound s h.sound_first) in
      let second : t.error < 16 = omega (arith, code_of_sound t h.sound_second) in
      record {
        other = other-reply c;
        status = λ r v. (
          served_reply s c 0x16 r v,
          served_reply t c 0x16 r (ap (λ (n : ℕ). served n) (sym (call-answer c)) ∙ v),
          status_above_code s t h.pack first second,
        );
        refused = λ v.
            refused_no_reply s c.service c.factory c.read c.bytes c.room (answer s c) refl v
            ∙ sym (refused_no_reply t c.service c.factory c.read c.bytes c.room (answer s c) (sym (call-answer c)) v);
      }

  -- ---- either

  same : (e : Event) → Same s t e
  same (sample x n) =
      let r = same_sample x n in record { answer = r.0; length = r.2; messages = r.3; broadcast = sample-sent x n; reply = tt }
  same (call c) = record { answer = call-answer c; length = call_length c; messages = refl; broadcast = refl; reply = call-reply c }

  same-idle : (e : Event) → is_idle s e ≡ is_idle t e
  same-idle (sample x n) = ap (λ (a : ℕ). not (eqb a 0)) (same_sample x n).0
  same-idle (call c) = ap (λ (a : ℕ). c.read || not (served a)) (call-answer c)

  same-pack : (e : Event) → (step s e).pack ≡ (step t e).pack
  same-pack (sample x n) = (same_sample x n).1
  same-pack (call c) = call-pack c

  same_step : (e : Event) → SameBut (step s e) (step t e)
  same_step e = record { pack = same-pack e; sound_first = step_sound s e h.sound_first; sound_second = step_sound t e h.sound_second }

idle_same : (s t : State) (e : Event) → SameBut s t → IdleEvent s e → SameBut (step s e) t
idle_same s t e h i =
    record { pack = idle_keeps s e i ∙ h.pack; sound_first = step_sound s e h.sound_first; sound_second = h.sound_second }

pub pack_step : PackStep
pack_step =
    record {
      keeps = idle_same;
      gives = λ s t e h. same s t h e;
      idle = λ s t e h. same-idle s t h e;
      leaves = λ s t e h. same_step s t h e;
    }
