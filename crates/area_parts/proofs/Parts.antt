-- Each part by itself: what is stored is read back, and what is read is stored again.
-- Assumes nothing.
use mathlib.Core.Path.{◌≡◌, refl, sym, ap, ◌∙◌}
use mathlib.Core.Bool.{Bool, true, false, and-eq-true_iff}
use mathlib.Core.List.{List, [], ◌∷◌, ◌++◌, append_assoc}
use Prim.Native.Nat.{ℕ, zero, suc, ◌+◌, ◌%◌, ◌^◌, ◌<◌}
use native.Mathlib.Omega.{arith}
use borrow.Author.Tests.{eqb-true, eqb-false, leb-true}
use lib.Dec.{eqb, leb}
use lib.ListN.{length, get_or, drop, replicate, length-append}
use lib.Seq.{sets, take_at, get_or-append-add}
use Rattle.std.specs.Int.{from_bool}
use Rattle.rooms.specs.Rooms.{Bytes}
use Rattle.rooms.proofs.Rooms.{then, whole}
use Rattle.pack.specs.Fits.{SettingsFit, HostFit, LatestFit, TankFit, TimersFit}
use Rattle.recent.specs.Fits.{Below, RecentFit}
use Rattle.numbers.specs.Numbers.{number_bytes, numbers_bytes, number_at, numbers_at, bytes_taken, Within, flag_of, flagged, flags}
use Rattle.area_parts.specs.Parts.{settings_widths, settings_numbers, settings_from, settings_bytes, settings_in, is_settings, host_widths, host_numbers, host_from, host_bytes, host_in, is_host, latest_widths, latest_numbers, latest_from, latest_bytes, latest_in, tank_widths, tank_numbers, tank_from, tank_bytes, tank_in, is_tank, timers_widths, timers_numbers, timers_from, timers_bytes, timers_in, recent_widths, recent_numbers, recent_from, recent_bytes, recent_in}
use Rattle.numbers.proofs.Numbers.{flag_is, numbers_back, all-again}
use Rattle.numbers.proofs.Stores.{bytes_length}
use Rattle.pack.specs.declared.Host.{Host}
use Rattle.recent.specs.declared.Recent.{Recent}
use Rattle.pack.specs.declared.Latest.{Latest}
use Rattle.pack.specs.declared.Settings.{Settings}
use Rattle.pack.specs.declared.Tank.{Tank}
use Rattle.pack.specs.declared.Timers.{Timers}

-- ---- flags

pub flag_back : (b : Bool) → flagged (flag_of b) ≡ b
flag_back true = refl
flag_back false = refl

-- a flag is its own byte
pub flag_own_byte : (b : Bool) → flag_of b ≡ flag_of b % 256
flag_own_byte true = refl
flag_own_byte false = refl

-- a flag's byte
pub flag_byte : (b : Bool) → from_bool b ≡ flag_of b % 256
flag_byte b = flag_is b ∙ flag_own_byte b

pub is_flag : (b : Bool) → leb (flag_of b) 1 ≡ true
is_flag true = refl
is_flag false = refl

pub flag_again : (n : ℕ) → leb n 1 ≡ true → flag_of (flagged n) ≡ n
flag_again n h = go (eqb n 1) refl
  where
    go : (t : Bool) → eqb n 1 ≡ t → flag_of (flagged n) ≡ n
    go true e = rw e (sym (eqb-true n 1 e))
    go false e = let z : n ≡ 0 = omega (arith, eqb-false n 1 e, leb-true n 1 h) in rw e (sym z)

pub flag_within : (b : Bool) → flag_of b < 256
flag_within true = omega arith
flag_within false = omega arith

-- ---- stored, then read

settings-numbers : (s : Settings) → SettingsFit s → numbers_at settings_widths (settings_bytes s) 0 ≡ settings_numbers s
settings-numbers s f =
    numbers_back settings_widths (settings_numbers s) (settings_bytes s) 0
    (f.DesignCapacity, (f.DesignVoltage, (f.MaxError, (f.ManufactureDate, (f.SerialNumber, (f.ChargingCurrent, (f.ChargingVoltage, (f.TemperatureLimit, (f.DischargeLimit, (flag_within s.plain, tt))))))))))
    refl

pub settings_back : (s : Settings) → SettingsFit s → settings_in (settings_bytes s) ≡ s
settings_back s f = ap settings_from (settings-numbers s f) ∙ rw (flag_back s.plain)

pub settings_is : (s : Settings) → SettingsFit s → is_settings (settings_bytes s) ≡ true
settings_is s f = ap (λ (ns : List ℕ). flags (drop 9 ns)) (settings-numbers s f) ∙ rw (is_flag s.plain)

host-numbers : (h : Host) → HostFit h → numbers_at host_widths (host_bytes h) 0 ≡ host_numbers h
host-numbers h f =
    numbers_back host_widths (host_numbers h) (host_bytes h) 0
    (f.ManufacturerAccess, (f.RemainingCapacityAlarm, (f.RemainingTimeAlarm, (f.AtRate, (flag_within h.AlarmMode, (flag_within h.ChargerMode, (flag_within h.CapacityMode, tt)))))))
    refl

pub host_back : (h : Host) → HostFit h → host_in (host_bytes h) ≡ h
host_back h f = ap host_from (host-numbers h f) ∙ rw (flag_back h.AlarmMode, flag_back h.ChargerMode, flag_back h.CapacityMode)

pub host_is : (h : Host) → HostFit h → is_host (host_bytes h) ≡ true
host_is h f =
    ap (λ (ns : List ℕ). flags (drop 4 ns)) (host-numbers h f) ∙ rw (is_flag h.AlarmMode, is_flag h.ChargerMode, is_flag h.CapacityMode)

pub latest_back : (l : Latest) → LatestFit l → latest_in (latest_bytes l) ≡ l
latest_back l f =
    ap latest_from (numbers_back latest_widths (latest_numbers l) (latest_bytes l) 0 (f.voltage, (f.current, (f.temperature, (f.counter, tt)))) refl)

tank-numbers : (t : Tank) → TankFit t → numbers_at tank_widths (tank_bytes t) 0 ≡ tank_numbers t
tank-numbers t f =
    numbers_back tank_widths (tank_numbers t) (tank_bytes t) 0
    (f.charge, (f.full, (f.CycleCount, (flag_within t.FullyDischarged, (f.toward, (f.drawn, (flag_within t.run.opened, tt)))))))
    refl

pub tank_back : (t : Tank) → TankFit t → tank_in (tank_bytes t) ≡ t
tank_back t f = ap tank_from (tank-numbers t f) ∙ rw (flag_back t.FullyDischarged, flag_back t.run.opened)

pub tank_is : (t : Tank) → TankFit t → is_tank (tank_bytes t) ≡ true
tank_is t f =
    ap (λ (ns : List ℕ). flags (get_or ns 3 0 ∷ get_or ns 6 0 ∷ [])) (tank-numbers t f) ∙ rw (is_flag t.FullyDischarged, is_flag t.run.opened)

pub timers_back : (t : Timers) → TimersFit t → timers_in (timers_bytes t) ≡ t
timers_back t f = ap timers_from (numbers_back timers_widths (timers_numbers t) (timers_bytes t) 0 (f.hold, (f.alarm, (f.charger, tt))) refl)

-- ---- the recent minute

pub numbers_bytes_length : (widths values : List ℕ) → length widths ≡ length values → length (numbers_bytes widths values) ≡ bytes_taken widths
numbers_bytes_length [] values e = refl
numbers_bytes_length (n ∷ widths) [] e = absurd (omega (arith, e))
numbers_bytes_length (n ∷ widths) (v ∷ values) e =
    omega (arith, length-append (number_bytes n v) (numbers_bytes widths values), bytes_length n v, numbers_bytes_length widths values (omega (arith, e)))

numbers_bytes_append : (ns vs ms ws : List ℕ) → length ns ≡ length vs → numbers_bytes (ns ++ ms) (vs ++ ws) ≡ numbers_bytes ns vs ++ numbers_bytes ms ws
numbers_bytes_append [] [] ms ws e = refl
numbers_bytes_append [] (v ∷ vs) ms ws e = absurd (omega (arith, e))
numbers_bytes_append (n ∷ ns) [] ms ws e = absurd (omega (arith, e))
numbers_bytes_append (n ∷ ns) (v ∷ vs) ms ws e = rw (numbers_bytes_append ns vs ms ws (omega (arith, e))) (sym (append_assoc (number_bytes n v) (numbers_bytes ns vs) (numbers_bytes ms ws)))

-- numbers of one width, then others
pub numbers_within : (width n : ℕ) (values ms ws : List ℕ) → length values ≡ n → Below (256 ^ width) values → Within ms ws
    → Within (replicate n width ++ ms) (values ++ ws)
numbers_within width zero [] ms ws e f h = h
numbers_within width zero (v ∷ values) ms ws e f h = absurd (omega (arith, e))
numbers_within width (suc n) [] ms ws e f h = absurd (omega (arith, e))
numbers_within width (suc n) (v ∷ values) ms ws e f h = (f.0, numbers_within width n values ms ws (omega (arith, e)) f.1 h)

module _ (r : Recent) where
  -- what follows the totals
  abbrev rest : List ℕ
  rest = r.count ∷ r.begun ∷ r.total ∷ []

  after-totals : length r.totals ≡ 60 → (k : ℕ) → get_or (recent_numbers r) (60 + k) 0 ≡ get_or rest k 0
  after-totals n k = rw n at (get_or-append-add r.totals rest k 0)

  pub recent-length : length r.totals ≡ 60 → length (recent_bytes r) ≡ bytes_taken recent_widths
  unfolding recent_bytes
  recent-length n = numbers_bytes_length recent_widths (recent_numbers r) (omega (arith, n, length-append r.totals rest))

  pub recent-back : RecentFit r → r.count < 256 → recent_in (recent_bytes r) ≡ r
  unfolding recent_in recent_bytes
  recent-back f small =
      ap recent_from
      (numbers_back recent_widths (recent_numbers r) (numbers_bytes recent_widths (recent_numbers r)) 0
      (numbers_within 4 60 r.totals (1 ∷ 2 ∷ 4 ∷ []) rest f.sixty f.totals (small, (f.begun, (f.total, tt))))
      refl)
      ∙ rw (take_at r.totals rest 60 f.sixty, after-totals f.sixty 0, after-totals f.sixty 1, after-totals f.sixty 2)

  -- the totals, then each number that follows
  pub recent-laid : (part : List ℕ) → length part ≡ bytes_taken recent_widths → length r.totals ≡ 60
      → sets
      (sets
      (sets (sets part 0 (numbers_bytes (replicate (length r.totals) 4) r.totals)) 240 (number_bytes 1 r.count))
      241
      (number_bytes 2 r.begun))
      243
      (number_bytes 4 r.total)
      ≡ recent_bytes r
  unfolding recent_bytes
  recent-laid part size n =
      let ts : List ℕ = numbers_bytes (replicate 60 4) r.totals in
      let after : List ℕ = numbers_bytes (1 ∷ 2 ∷ 4 ∷ []) rest in
      let k : length ts ≡ 240 = numbers_bytes_length (replicate 60 4) r.totals (sym n) in
      let all : numbers_bytes recent_widths (recent_numbers r) ≡ ts ++ after = numbers_bytes_append (replicate 60 4) r.totals (1 ∷ 2 ∷ 4 ∷ []) rest (sym n) in
      rw (n, all) (then part 0 240 ts after refl (omega arith) ∙ whole part (ts ++ after) (omega (arith, length-append ts after)))

-- ---- read, then stored

module _ (part : List ℕ) (b : Bytes part) where
  pub settings-again : length part ≡ bytes_taken settings_widths → is_settings part ≡ true → settings_bytes (settings_in part) ≡ part
  settings-again n is = rw (flag_again (number_at 1 part 18) ((and-eq-true_iff _ _).0 is).0) (all-again part b settings_widths n)

  pub host-again : length part ≡ bytes_taken host_widths → is_host part ≡ true → host_bytes (host_in part) ≡ part
  host-again n is =
      let f = (and-eq-true_iff _ _).0 is in
      let g = (and-eq-true_iff _ _).0 f.1 in
      let h = (and-eq-true_iff _ _).0 g.1 in
      rw (flag_again (number_at 1 part 8) f.0, flag_again (number_at 1 part 9) g.0, flag_again (number_at 1 part 10) h.0) (all-again part b host_widths n)

  pub latest-again : length part ≡ bytes_taken latest_widths → latest_bytes (latest_in part) ≡ part
  latest-again n = all-again part b latest_widths n

  pub tank-again : length part ≡ bytes_taken tank_widths → is_tank part ≡ true → tank_bytes (tank_in part) ≡ part
  tank-again n is =
      let f = (and-eq-true_iff _ _).0 is in
      rw (flag_again (number_at 1 part 12) f.0, flag_again (number_at 1 part 29) ((and-eq-true_iff _ _).0 f.1).0) (all-again part b tank_widths n)

  pub timers-again : length part ≡ bytes_taken timers_widths → timers_bytes (timers_in part) ≡ part
  timers-again n = all-again part b timers_widths n

  pub recent-again : length part ≡ bytes_taken recent_widths → recent_bytes (recent_in part) ≡ part
  unfolding recent_bytes recent_in
  recent-again n = all-again part b recent_widths n
