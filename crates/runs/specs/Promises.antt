-- The theorems over histories that `proofs/` proves: whatever is written, read or refused between the samples.
-- Assumes nothing.
use Rattle.std.specs.Prelude.{ℕ, ◌-◌, ◌%◌, ◌^◌, ◌≤◌, ◌<◌, Bool, true, false, List, [], ◌∷◌, ◌++◌, ◌≡◌, pos, length, take}
use Rattle.std.specs.Int.{w16}
use Rattle.std.proofs.Common.{to_z}
use Rattle.bus_laws.specs.Calls.{Call, answer, reply, Reads, kept_word, Exchanged}
use Rattle.broadcasts.specs.Broadcasts.{alarm_goes, charger_goes}
use Rattle.chatter.specs.Promises.{StepLaw}
use Rattle.chatter.specs.Struck.{Struck}
use Rattle.clock.specs.Broadcast.{sample_of, broadcast_room}
use Rattle.clock.specs.Sample.{moved_of}
use Rattle.commands.specs.Answers.{served}
use Rattle.frame.specs.Broadcasts.{message_to, sent_as, message_size}
use Rattle.frame.specs.Transactions.{reply_of, word_body}
use Rattle.alarms.specs.Alarms.{any_alarm}
use Rattle.status.specs.Status.{alarm_word}
use Rattle.gauge.specs.Word.{word_of}
use Rattle.pack.specs.Fits.{Fits, SampleFits}
use Rattle.start.specs.Fits.{SetupFits}
use Rattle.start.specs.SetUp.{set_up_of}
use Rattle.pack.specs.Sound.{sound_of}
use Rattle.pack.specs.declared.Pack.{Pack}
use Rattle.pack.specs.declared.Sample.{Sample}
use Rattle.start.specs.declared.Setup.{Setup}
use Rattle.pack.specs.declared.State.{State}
use Rattle.recent_laws.specs.Kept.{recent_of}
use Rattle.recent_laws.specs.Minute.{average_of_all}
use Rattle.rooms.specs.Rooms.{Bytes, placed}
use Rattle.runs.specs.Alarms.{Alarming, NoAlarm, AlarmWithin, ModeWrite, NoModeWrite}
use Rattle.runs.specs.Events.{Event, sample, step, run, Throughout, EventFits, sent, accepted, accepted_of, time_of, ServedWrite, IdleEvent}
use Rattle.runs.specs.Closes.{closed_by, ClosesNone}
use Rattle.runs.specs.Histories.{History}
use Rattle.runs.specs.Since.{from_set_up, measures_of, measures_after, milliseconds, latest_current, Signed16, charge_over, Counted}
use Rattle.runs.specs.Struck.{SameBut, Same, pack_party, Undisturbed}
use Rattle.capacity.specs.Capacity.{milliamp_ms}

-- ---- histories

-- sound stays sound, over any history
abbrev pub RunSound : Type 0
RunSound = (s : State) (es : List Event) → sound_of s ≡ true → sound_of (run s es) ≡ true

-- from a sound state every event is an accepted sample, or takes no time and leaves the pack as it was or as a served write leaves it
abbrev pub SeenThrough : Type 0
SeenThrough = (s : State) (es : List Event) → sound_of s ≡ true → History s es

-- the elapsed times come to true time, read off a 32-bit counter, if accepted samples come less than 2^32 ms apart
abbrev pub TimeTrue : Type 0
TimeTrue =
    (s : State) (es : List Event) (start stop : ℕ) → sound_of s ≡ true → s.pack.latest.counter ≡ start % 2 ^ 32
    → Counted start (accepted_of s es) stop → time_of s es ≡ stop - start

-- ---- what a program can hold: from set-up on, fields hold what their types let them hold

-- over any history
abbrev pub RunFits : Type 0
RunFits = (s : State) (es : List Event) → Fits s → Throughout EventFits s es → Fits (run s es)

-- so the currents of the accepted samples are signed 16-bit numbers, as the theorems on charge and average ask
abbrev pub AcceptedSigned : Type 0
AcceptedSigned = (s : State) (es : List Event) → Throughout EventFits s es → Signed16 (accepted_of s es)

-- and in every state that is reached from set-up, served or refused, fields hold what their types let them hold
abbrev pub ReachedFits : Type 0
ReachedFits =
    (u : Setup) (first : Sample) (es : List Event) → SetupFits u → SampleFits first → Throughout EventFits (from_set_up u first) es
    → Fits (run (from_set_up u first) es)

-- a read that is served there is an exchange in the sense of the theorems on exchanges
abbrev pub ReachedExchanged : Type 0
ReachedExchanged =
    (u : Setup) (first : Sample) (es : List Event) → SetupFits u → SampleFits first → Throughout EventFits (from_set_up u first) es
    → (c : Call) (command : ℕ) → Bytes c.bytes → Bytes c.service → Bytes c.factory
    → Reads c command → served (answer (run (from_set_up u first) es) c) ≡ true → Exchanged (run (from_set_up u first) es) c

-- and from a served set-up every word is below 65,536
abbrev pub ReachedWords : Type 0
ReachedWords =
    (u : Setup) (first : Sample) (es : List Event) (command : ℕ) → (set_up_of u first).answer ≡ 0
    → SetupFits u → SampleFits first → Throughout EventFits (from_set_up u first) es → word_of (run (from_set_up u first) es) command < 65536

-- ---- what is measured

-- latest sample, recent minute and tank depend on what set-up fixed and on the accepted samples only
abbrev pub MeasuresOfAccepted : Type 0
MeasuresOfAccepted =
    (s : State) (es : List Event) → sound_of s ≡ true
    → measures_of (run s es).pack ≡ measures_after s.pack.settings (measures_of s.pack) (accepted_of s es)

-- the kept totals are exactly those of the last 60 complete seconds since set-up, and the begun one has the rest
abbrev pub MinuteSinceSetUp : Type 0
MinuteSinceSetUp =
    (u : Setup) (first : Sample) (es : List Event) → (set_up_of u first).answer ≡ 0 → Signed16 (accepted_of (from_set_up u first) es)
    → (run (from_set_up u first) es).pack.recent ≡ recent_of (milliseconds first.counter (accepted_of (from_set_up u first) es))

-- register 0B as a signed number is the average over the last 60 complete seconds of all milliseconds since set-up; with none complete, the latest current
abbrev pub AverageSinceSetUp : Type 0
AverageSinceSetUp =
    (u : Setup) (first : Sample) (es : List Event) → (set_up_of u first).answer ≡ 0 → Signed16 (first ∷ accepted_of (from_set_up u first) es)
    → to_z w16 (word_of (run (from_set_up u first) es) 0x0B)
    ≡ average_of_all (milliseconds first.counter (accepted_of (from_set_up u first) es)) (latest_current first (accepted_of (from_set_up u first) es))

-- from any sound state, while no run closes, current × elapsed of every accepted sample is added to the charge, held between 0 and full
abbrev pub ChargeFrom : Type 0
ChargeFrom =
    (s : State) (es : List Event) → sound_of s ≡ true → Throughout ClosesNone s es → Signed16 (accepted_of s es)
    → pos (run s es).pack.tank.charge
    ≡ charge_over s.pack.tank.full (pos s.pack.tank.charge) s.pack.latest.counter (accepted_of s es)

-- so, till a run closes, charge is set-up's remaining capacity and, over all accepted samples since, current × elapsed added and held between 0 and full
abbrev pub ChargeSinceSetUp : Type 0
ChargeSinceSetUp =
    (u : Setup) (first : Sample) (es : List Event) → (set_up_of u first).answer ≡ 0 → Throughout ClosesNone (from_set_up u first) es
    → Signed16 (accepted_of (from_set_up u first) es)
    → pos (run (from_set_up u first) es).pack.tank.charge
    ≡ charge_over u.full (pos (milliamp_ms u.remaining)) first.counter (accepted_of (from_set_up u first) es)

-- and from a close on, till the next, it is 0 and the same, held between 0 and the full that the close left
abbrev pub ChargeSinceClose : Type 0
ChargeSinceClose =
    (s : State) (x : Sample) (n : ℕ) (es : List Event) → sound_of s ≡ true → accepted s (sample x n) ≡ true → closed_by s x ≡ true
    → Throughout ClosesNone (step s (sample x n)) es → Signed16 (accepted_of (step s (sample x n)) es)
    → pos (run s (sample x n ∷ es)).pack.tank.charge
    ≡ charge_over (step s (sample x n)).pack.tank.full (pos 0) x.counter (accepted_of (step s (sample x n)) es)

-- charge is never above full, the learned one too, so 0F is never above 10, nor 0D above 100
abbrev pub ChargeAtMostFull : Type 0
ChargeAtMostFull =
    (s : State) (es : List Event) → sound_of s ≡ true
    → ((run s es).pack.tank.charge ≤ milliamp_ms (run s es).pack.tank.full) × (word_of (run s es) 0x0F ≤ word_of (run s es) 0x10)
    × (word_of (run s es) 0x0D ≤ 100)

-- ---- what is sent

-- `sent` is what a sample's call puts at the front of the lent room
abbrev pub SentIsPlaced : Type 0
SentIsPlaced =
    (s : State) (x : Sample) (room : List ℕ)
    → (broadcast_room s x room ≡ placed (sent s (sample x (length room))) room)
    × ((sample_of s x (length room)).length ≡ length (sent s (sample x (length room))))

-- where an alarm goes, the host's AlarmWarning is the first message sent
abbrev pub AlarmIsSent : Type 0
AlarmIsSent =
    (s : State) (x : Sample) (n : ℕ) → accepted s (sample x n) ≡ true → alarm_goes (moved_of s.pack x) ≡ true
    → let plain = s.pack.settings.plain in
    take (message_size plain) (sent s (sample x n)) ≡ sent_as plain (message_to 0x10 0x16 (alarm_word (moved_of s.pack x)))

-- an alarm in every 11 s: from any sound state a history of 10 s or more has one in its first 11 s
abbrev pub AlarmIn11s : Type 0
AlarmIn11s = (s : State) (es : List Event) → sound_of s ≡ true → Throughout Alarming s es → 10000 ≤ time_of s es → AlarmWithin 11000 s es

-- at once for the first: at the first sample since set-up at which a bit is set with ALARM_MODE clear
abbrev pub FirstAtOnce : Type 0
FirstAtOnce =
    (u : Setup) (first : Sample) (es : List Event) (x : Sample) → (set_up_of u first).answer ≡ 0 → Throughout NoAlarm (from_set_up u first) es
    → any_alarm (moved_of (run (from_set_up u first) es).pack x) ≡ true → (moved_of (run (from_set_up u first) es).pack x).host.AlarmMode ≡ false
    → alarm_goes (moved_of (run (from_set_up u first) es).pack x) ≡ true

-- from an accepted sample at which words go to any later one at which they go, so many milliseconds pass at the least
abbrev pub ApartBy : ℕ → (Pack → Bool) → Type 0
ApartBy least goes =
    (s : State) (x : Sample) (n : ℕ) (es : List Event) (y : Sample) (m : ℕ) → sound_of s ≡ true
    → accepted s (sample x n) ≡ true → goes (moved_of s.pack x) ≡ true
    → accepted (run s (sample x n ∷ es)) (sample y m) ≡ true → goes (moved_of (run s (sample x n ∷ es)).pack y) ≡ true
    → least ≤ time_of (step s (sample x n)) (es ++ sample y m ∷ [])

-- alarms: 10,000
abbrev pub AlarmsApart : Type 0
AlarmsApart = ApartBy 10000 alarm_goes

-- charger words: 30,000
abbrev pub ChargerWordsApart : Type 0
ChargerWordsApart = ApartBy 30000 charger_goes

-- ---- modes

-- a served write to 03 with bit 13 set starts a 60,000 ms hold
abbrev pub HoldStarts : Type 0
HoldStarts = (s : State) (e : Event) → ModeWrite 13 true s e → ((step s e).pack.timers.hold ≡ 60000) × ((step s e).pack.host.AlarmMode ≡ true)

-- ALARM_MODE stays set until the hold has passed, over any history without a write that ends it
abbrev pub HoldLasts : Type 0
HoldLasts =
    (s : State) (es : List Event) → sound_of s ≡ true → Throughout (NoModeWrite 13 false) s es → time_of s es < s.pack.timers.hold
    → (run s es).pack.host.AlarmMode ≡ true

-- and is clear then, over any history without a write that starts one
abbrev pub HoldEnds : Type 0
HoldEnds =
    (s : State) (es : List Event) → sound_of s ≡ true → Throughout (NoModeWrite 13 true) s es → s.pack.timers.hold ≤ time_of s es
    → (run s es).pack.host.AlarmMode ≡ false

-- so 60,000 ms after the last write that starts one at the latest
abbrev pub ClearsItself : Type 0
ClearsItself =
    (s : State) (es : List Event) → sound_of s ≡ true → Throughout (NoModeWrite 13 true) s es → 60000 ≤ time_of s es
    → (run s es).pack.host.AlarmMode ≡ false

-- no alarm goes before the hold has passed
abbrev pub AlarmsHeld : Type 0
AlarmsHeld =
    (s : State) (es : List Event) (x : Sample) (n : ℕ) → sound_of s ≡ true → Throughout (NoModeWrite 13 false) s es
    → accepted (run s es) (sample x n) ≡ true → time_of s (es ++ sample x n ∷ []) < s.pack.timers.hold
    → alarm_goes (moved_of (run s es).pack x) ≡ false

-- while CHARGER_MODE is set no charger word goes
abbrev pub ChargerSilent : Type 0
ChargerSilent =
    (s : State) (es : List Event) (x : Sample) → sound_of s ≡ true → Throughout (NoModeWrite 14 false) s es → s.pack.host.ChargerMode ≡ true
    → charger_goes (moved_of (run s es).pack x) ≡ false

-- ---- idle chatter doesn't matter

-- idle events leave the pack as it was
abbrev pub IdleKeep : Type 0
IdleKeep = (s : State) (es : List Event) → Throughout IdleEvent s es → (run s es).pack ≡ s.pack

-- what is written is read back, after any number of idle events
abbrev pub ReadBack : Type 0
ReadBack =
    (s : State) (w : Event) (es : List Event) (r : Call) (command word : ℕ)
    → ServedWrite s w command word → Throughout IdleEvent (step s w) es → Reads r command → 34 ≤ r.room
    → reply (run s (w ∷ es)) r ≡ reply_of r.bytes (word_body (kept_word command word))

-- one event: an idle one leaves the pack as it was; in states that are the same but for the error code any one gives the same, and leaves states the same but for it
abbrev pub PackStep : Type 0
PackStep = StepLaw pack_party

-- any history since a served set-up, and the same with any of its idle events struck out
abbrev pub ChatterIsIdle : Type 0
ChatterIsIdle =
    (u : Setup) (first : Sample) (es fs : List Event) → (set_up_of u first).answer ≡ 0
    → (r : Struck pack_party (from_set_up u first) es fs) → Undisturbed (from_set_up u first) (from_set_up u first) es fs r

-- from any two sound states that are the same but for the error code
abbrev pub ChatterIsIdleFrom : Type 0
ChatterIsIdleFrom = (s t : State) (es fs : List Event) (r : Struck pack_party s es fs) → SameBut s t → Undisturbed s t es fs r

-- so whatever comes next gives the same
abbrev pub NextIsSame : Type 0
NextIsSame = (s : State) (es fs : List Event) → sound_of s ≡ true → Struck pack_party s es fs → (e : Event) → Same (run s es) (run s fs) e
