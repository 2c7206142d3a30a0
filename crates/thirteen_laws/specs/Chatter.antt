-- Request R-11 on the thirteen-cell pack: reads and refused calls struck out of its events.
-- Assumes nothing.
use Rattle.std.specs.Prelude.{ℕ, Bool, true, not, ◌||◌, List, [], ◌≡◌, eqb}
use Rattle.chatter.specs.Struck.{Party, Struck, Unmoved}
use Rattle.commands.specs.Answers.{served}
use Rattle.pack.specs.declared.Sample.{Sample}
use Rattle.start.specs.declared.Setup.{Setup}
use Rattle.thirteen_laws.specs.Events.{answer, reply, Event, sample, call, step}
use Rattle.thirteen_laws.specs.Since.{from_set_up}
use Rattle.thirteen_pack.specs.Sample.{sample_of}
use Rattle.thirteen_pack.specs.SetUp.{set_up_of}
use Rattle.thirteen_pack.specs.Sound.{sound_of}
use Rattle.thirteen_pack.specs.declared.ThirteenState.{ThirteenState}

-- an event's answer
abbrev pub answer_to : ThirteenState → Event → ℕ
answer_to s (sample x cells) = (sample_of s x cells).answer
answer_to s (call c) = answer s c

-- its reply; a sample has none
abbrev pub reply_to : ThirteenState → Event → List ℕ
reply_to s (sample x cells) = []
reply_to s (call c) = reply s c

-- an idle event: a refused sample, a read or a refused call
abbrev pub is_idle : ThirteenState → Event → Bool
is_idle s (sample x cells) = not (eqb (sample_of s x cells).answer 0)
is_idle s (call c) = c.read || not (served (answer s c))

-- two sound states that are the same but for the error code
pub record SameBut (s t : ThirteenState) : Type 0 where
  pub pack : s.pack ≡ t.pack
  pub sound_first : sound_of s ≡ true
  pub sound_second : sound_of t ≡ true

-- the pack as what takes events: no word of it shows the error code, so that every answer and every reply is the same
abbrev pub thirteen_party : Party ThirteenState Event
thirteen_party =
    record {
      step = step;
      idle = is_idle;
      Same = SameBut;
      Gives = λ s t e. (answer_to s e ≡ answer_to t e) × (reply_to s e ≡ reply_to t e);
    }

-- since a served set-up any of its idle events can be struck out: the end is the same but for the error code, and every event that stays gives the same (RULES 16.6)
abbrev pub ChatterIsIdle : Type 0
ChatterIsIdle =
    (u : Setup) (health : ℕ) (first : Sample) (cells : List ℕ) (es fs : List Event) → (set_up_of u health first cells).answer ≡ 0
    → (r : Struck thirteen_party (from_set_up u health first cells) es fs)
    → Unmoved thirteen_party (from_set_up u health first cells) (from_set_up u health first cells) es fs r
