-- Document 01, Clock and broadcasts: what a sample leaves, answers and broadcasts.
-- Assumes nothing.
use Rattle.std.specs.Prelude.{ℕ, cond, not, List, length, nat_lt}
use Rattle.clock.specs.Sample.{moved_of}
use Rattle.clock.specs.declared.Sampled.{Sampled}
use Rattle.broadcasts.specs.Broadcasts.{alarm_goes, charger_goes, broadcast_of, messages_of, least_room}
use Rattle.pack.specs.Sound.{sound_of}
use Rattle.pack.specs.declared.Pack.{Pack}
use Rattle.pack.specs.declared.Sample.{Sample}
use Rattle.pack.specs.declared.State.{State}
use Rattle.rooms.specs.Rooms.{placed}
use Rattle.timers.specs.Countdown.{restarted_of}

-- the pack after a sample
unfoldable pub sampled_of : Pack → Sample → Pack
sampled_of p s =
    record {
      settings = (moved_of p s).settings;
      host = (moved_of p s).host;
      latest = (moved_of p s).latest;
      recent = (moved_of p s).recent;
      tank = (moved_of p s).tank;
      timers = restarted_of (moved_of p s).timers (alarm_goes (moved_of p s)) (charger_goes (moved_of p s));
    }

-- a refused sample: everything as it was, the other numbers 0 (RULES 2.3, 2.4)
abbrev pub refused_sample : ℕ → State → Sampled
refused_sample answer s = record { answer = answer; state = s; length = 0; messages = 0 }

-- a served sample: the error code stays (RULES 2.7)
abbrev pub served_sample : State → Sample → Sampled
served_sample s sample =
    record {
      answer = 0;
      state = record { error = s.error; pack = sampled_of s.pack sample };
      length = length (broadcast_of (moved_of s.pack sample));
      messages = length (messages_of (moved_of s.pack sample));
    }

-- 1: state isn't sound; 2: broadcast room under 20 bytes, under 16 in plain; else 0 (RULES 1.1, 1.2)
unfoldable pub sample_of : State → Sample → ℕ → Sampled
sample_of s sample room =
    cond (not (sound_of s)) (refused_sample 1 s)
    (cond (nat_lt room (least_room s.pack.settings.plain)) (refused_sample 2 s)
    (served_sample s sample))

-- a refusal writes nothing; a broadcast is at the front and the rest of the room stays (RULES 2.3, 2.5)
unfoldable pub broadcast_room : State → Sample → List ℕ → List ℕ
broadcast_room s sample room =
    cond (not (sound_of s)) room
    (cond (nat_lt (length room) (least_room s.pack.settings.plain)) room
    (placed (broadcast_of (moved_of s.pack sample)) room))
