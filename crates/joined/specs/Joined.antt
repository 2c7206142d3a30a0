-- Request R-7: pack and charger joined on one clock, every broadcast delivered as writes, any traffic of hosts with the pack, nobody else writing to the charger.
-- Assumes nothing.
use Rattle.std.specs.Prelude.{ℕ, zero, suc, ◌+◌, ◌≤◌, Bool, true, false, cond, List, [], ◌∷◌, ◌++◌, ◌⊎◌, ◌≡◌}
use Rattle.bus_laws.specs.Calls.{Call}
use Rattle.charger.specs.Delivered.{message_at}
use Rattle.charger_state.specs.declared.Charger.{Charger}
use Rattle.charger_laws.specs.Events as charger
use Rattle.chatter.specs.Histories.{run_of}
use Rattle.clock.specs.Broadcast.{sample_of}
use Rattle.clock.specs.Sample.{elapsed_of}
use Rattle.commands.specs.Answers.{served}
use Rattle.frame.specs.Broadcasts.{message_size}
use Rattle.pack.specs.declared.Sample.{Sample}
use Rattle.pack.specs.declared.State.{State}
use Rattle.runs.specs.Events.{Event, sample, call, run, accepted, sent, time_of}

-- ---- what happens

-- both side by side
pub record Joint : Type 0 where
  pub pack : State
  pub charger : Charger

-- both get a sample: the pack with a broadcast room of a length; its messages reach the charger, which has a reply room of a length and gets its own sample before them or after
pub record Tick : Type 0 where
  pub pack : Sample
  pub room : ℕ
  pub charger : Sample
  pub reply : ℕ
  pub first : Bool

-- a tick, a call of a host to the pack, or one to the charger
pub data Happening : Type 0 where
  tick : Tick → Happening
  host : Call → Happening
  asks : charger.Call → Happening

-- a tick's sample, as an event of the pack's histories
abbrev pub pack_sample : Tick → Event
pack_sample t = sample t.pack t.room

-- what a happening is to the pack
abbrev pub pack_events : Happening → List Event
pack_events (tick t) = pack_sample t ∷ []
pack_events (host c) = call c ∷ []
pack_events (asks c) = []

-- so its history
abbrev pub events_of : List Happening → List Event
events_of [] = []
events_of (h ∷ hs) = pack_events h ++ events_of hs

-- ---- a broadcast's way to the charger

-- so many messages of a broadcast, cut out one after another from a place on, by the function that a driver uses
abbrev pub cut : Bool → List ℕ → ℕ → ℕ → List (List ℕ)
cut plain bytes at zero = []
cut plain bytes at (suc n) = message_at plain bytes at ∷ cut plain bytes (at + message_size plain) n

-- the messages that the pack sends at a tick; `sent` is what its call puts at the front of the lent room (`runs` `sent_is_placed`)
abbrev pub messages_from : State → Tick → List (List ℕ)
messages_from s t = cut s.pack.settings.plain (sent s (pack_sample t)) 0 (sample_of s t.pack t.room).messages

-- each is delivered as a write
abbrev pub deliveries : ℕ → List (List ℕ) → List charger.Event
deliveries reply [] = []
deliveries reply (m ∷ ms) = charger.call (record { read = false; bytes = m; room = reply }) ∷ deliveries reply ms

-- what a happening is to the charger
abbrev pub charger_events : State → Happening → List charger.Event
charger_events s (tick t) =
    cond t.first (charger.sample t.charger ∷ deliveries t.reply (messages_from s t))
    (deliveries t.reply (messages_from s t) ++ charger.sample t.charger ∷ [])
charger_events s (host c) = []
charger_events s (asks c) = charger.call c ∷ []

-- what it leaves
abbrev pub happen : Joint → Happening → Joint
happen j h = record { pack = run j.pack (pack_events h); charger = charger.run j.charger (charger_events j.pack h) }

abbrev pub after_all : Joint → List Happening → Joint
after_all j hs = run_of happen j hs

-- ---- the premise

-- what elapses for the pack by a tick
abbrev pub gap_of : Joint → Tick → ℕ
gap_of j t = elapsed_of t.pack.counter j.pack.pack.latest.counter

-- at a tick: the pack's sample is accepted, the charger has room for a reply, one clock (the same time elapses for both), at most 1 s after the sample before;
-- nobody else writes to the charger: whatever it is asked is a read, or refused
abbrev pub Fair : Joint → Happening → Type 0
Fair j (tick t) =
    (accepted j.pack (pack_sample t) ≡ true) × (3 ≤ t.reply)
    × (elapsed_of t.charger.counter j.charger.latest.counter ≡ gap_of j t) × (gap_of j t ≤ 1000)
Fair j (host c) = Unit {0}
Fair j (asks c) = (c.read ≡ true) ⊎ (served (charger.answer j.charger c) ≡ false)

abbrev pub AllFair : Joint → List Happening → Type 0
AllFair j [] = Unit {0}
AllFair j (h ∷ hs) = Fair j h × AllFair (happen j h) hs

-- P holds now and after each happening
abbrev pub Throughout : (Joint → Type 0) → Joint → List Happening → Type 0
Throughout P j [] = P j
Throughout P j (h ∷ hs) = P j × Throughout P (happen j h) hs

-- P holds at a tick that comes at most so many milliseconds after the start, and throughout from there on
pub record Within (most : ℕ) (P : Joint → Type 0) (j : Joint) (hs : List Happening) : Type 0 where
  pub before : List Happening
  pub at : Tick
  pub after : List Happening
  pub splits : hs ≡ before ++ tick at ∷ after
  pub soon : time_of j.pack (events_of (before ++ tick at ∷ [])) ≤ most
  pub lasts : Throughout P (after_all j (before ++ tick at ∷ [])) after
