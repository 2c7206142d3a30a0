-- Request R-11: reads and refused calls struck out of a history, and what stays the same.
-- Assumes nothing.
use Rattle.std.specs.Prelude.{ℕ, ◌/◌, true, false, List, ◌≡◌}
use Rattle.bus_laws.specs.Calls.{Call, result, answer, reply, Reads}
use Rattle.chatter.specs.Struck.{Party, Struck, Unmoved}
use Rattle.clock.specs.Broadcast.{sample_of}
use Rattle.commands.specs.Answers.{served}
use Rattle.frame.specs.Transactions.{reply_of, word_body}
use Rattle.gauge.specs.Word.{word_of}
use Rattle.pack.specs.Sound.{sound_of}
use Rattle.pack.specs.declared.State.{State}
use Rattle.runs.specs.Events.{Event, sample, call, step, is_idle, answer_to, sent, accepted_of, broadcasts, time_of, elapsed_each}

-- two sound states that are the same but for the error code
pub record SameBut (s t : State) : Type 0 where
  pub pack : s.pack ≡ t.pack
  pub sound_first : sound_of s ≡ true
  pub sound_second : sound_of t ≡ true

-- the same reply but for the low four bits of BatteryStatus and the PEC that follows them (RULES 16.4)
pub record SameReply (s t : State) (c : Call) : Type 0 where
  pub other : (Reads c 0x16 → ⊥) → reply s c ≡ reply t c
  pub status : Reads c 0x16 → served (answer s c) ≡ true
      → (reply s c ≡ reply_of c.bytes (word_body (word_of s 0x16))) × (reply t c ≡ reply_of c.bytes (word_body (word_of t 0x16)))
      × (word_of s 0x16 / 16 ≡ word_of t 0x16 / 16)
  pub refused : served (answer s c) ≡ false → reply s c ≡ reply t c

-- of a call the same reply in that sense
abbrev pub SameReplies : State → State → Event → Type 0
SameReplies s t (sample x n) = Unit {0}
SameReplies s t (call c) = SameReply s t c

-- how many bytes an event tells of: sent or replied
abbrev pub length_to : State → Event → ℕ
length_to s (sample x n) = (sample_of s x n).length
length_to s (call c) = (result s c).length

-- and how many messages
abbrev pub messages_to : State → Event → ℕ
messages_to s (sample x n) = (sample_of s x n).messages
messages_to s (call c) = 0

-- what an event gives is the same in two states
pub record Same (s t : State) (e : Event) : Type 0 where
  pub answer : answer_to s e ≡ answer_to t e
  pub length : length_to s e ≡ length_to t e
  pub messages : messages_to s e ≡ messages_to t e
  pub broadcast : sent s e ≡ sent t e
  pub reply : SameReplies s t e

-- the pack as what takes events
abbrev pub pack_party : Party State Event
pack_party = record { step = step; idle = is_idle; Same = SameBut; Gives = Same }

-- the full history from s and the struck one from t: the end is the same but for the error code, and every event that stays gives the same;
-- the broadcasts are the same bytes, sample by sample, the same samples are accepted, and the same time elapses, sample by sample (RULES 16.2 to 16.4)
pub record Undisturbed (s t : State) (es fs : List Event) (r : Struck pack_party s es fs) : Type 0 where
  pub unmoved : Unmoved pack_party s t es fs r
  pub broadcast : broadcasts s es ≡ broadcasts t fs
  pub samples : accepted_of s es ≡ accepted_of t fs
  pub elapsed : elapsed_each s es ≡ elapsed_each t fs
  pub time : time_of s es ≡ time_of t fs
