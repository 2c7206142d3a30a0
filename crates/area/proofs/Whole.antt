-- The parts together: laid at their places, read back, and read and stored again.
-- Assumes nothing.
use mathlib.Core.Path.{◌≡◌, refl, sym, ap, ◌∙◌}
use mathlib.Core.Bool.{true, and-eq-true_iff}
use mathlib.Core.List.{List, [], ◌++◌, append_assoc, append-nil}
use Prim.Native.Nat.{ℕ, ◌+◌, ◌*◌, ◌%◌, ◌≤◌, ◌<◌}
use native.Mathlib.Omega.{arith}
use borrow.Author.Tests.{eq-eqb, eqb-true}
use borrow.Rule.Slice.PartMut.{put_mid, mid_len}
use lib.Dec.{eqb}
use lib.ListN.{length, take, drop, length-drop, drop_of_length-le}
use lib.Seq.{sets, take_at, drop_at, take-add}
use Rattle.rooms.specs.Rooms.{Bytes, between}
use Rattle.rooms.proofs.Rooms.{front}
use Rattle.area.specs.Area.{settings_at, host_at, latest_at, tank_at, timers_at, recent_at, area_length, area_of, state_in, is_area, loaded, loaded_of}
use Rattle.pack.specs.Fits.{Fits}
use Rattle.numbers.specs.Numbers.{number_bytes, bytes_taken}
use Rattle.area_parts.specs.Parts.{settings_widths, host_widths, latest_widths, tank_widths, timers_widths, recent_widths, settings_bytes, host_bytes, latest_bytes, tank_bytes, timers_bytes, recent_bytes, is_settings, is_host, is_tank, recent_in}
use Rattle.numbers.proofs.Numbers.{bytes_between, number-again}
use Rattle.area_parts.proofs.Parts.{settings_back, settings_is, host_back, host_is, latest_back, tank_back, tank_is, timers_back, recent-length, recent-back, settings-again, host-again, latest-again, tank-again, timers-again, recent-again}
use Rattle.pack.specs.declared.Host.{Host}
use Rattle.recent.specs.declared.Recent.{Recent}
use Rattle.pack.specs.declared.Latest.{Latest}
use Rattle.pack.specs.declared.Settings.{Settings}
use Rattle.pack.specs.declared.State.{State}
use Rattle.pack.specs.declared.Tank.{Tank}
use Rattle.pack.specs.declared.Timers.{Timers}

-- ---- laid at their places

-- one part more, lent and given back
pub lent : (before rest part : List ℕ) (at n : ℕ) {area : List ℕ} → area ≡ before ++ rest → length before ≡ at
    → put_mid at n area part ≡ before ++ part ++ drop n rest
lent before rest part at n e k = rw (e, take_at before rest at k, drop_at before rest at k) (sym (append_assoc before part (drop n rest)))

-- the parts, each at its place, are the area
pub state_laid : (room : List ℕ) (s : State) {area settings host latest tank timers recent : List ℕ} → length room ≡ area_length
    → area ≡ sets room 0 (number_bytes 1 s.error)
    → settings ≡ settings_bytes s.pack.settings
    → host ≡ host_bytes s.pack.host
    → latest ≡ latest_bytes s.pack.latest
    → tank ≡ tank_bytes s.pack.tank
    → timers ≡ timers_bytes s.pack.timers
    → recent ≡ recent_bytes s.pack.recent
    → put_mid recent_at (bytes_taken recent_widths)
    (put_mid timers_at (bytes_taken timers_widths)
    (put_mid tank_at (bytes_taken tank_widths)
    (put_mid latest_at (bytes_taken latest_widths) (put_mid host_at (bytes_taken host_widths) (put_mid settings_at (bytes_taken settings_widths) area settings) host) latest)
    tank)
    timers)
    recent
    ≡ area_of s
unfolding area_of
state_laid room s n ea es eh el et er ek =
    let E = number_bytes 1 s.error in
    let S = settings_bytes s.pack.settings in
    let H = host_bytes s.pack.host in
    let L = latest_bytes s.pack.latest in
    let T = tank_bytes s.pack.tank in
    let R = timers_bytes s.pack.timers in
    let K = recent_bytes s.pack.recent in
    let after_error = drop settings_at room in
    let after_settings = drop (bytes_taken settings_widths) after_error in
    let after_host = drop (bytes_taken host_widths) after_settings in
    let after_latest = drop (bytes_taken latest_widths) after_host in
    let after_tank = drop (bytes_taken tank_widths) after_latest in
    let after_timers = drop (bytes_taken timers_widths) after_tank in
    let settings = lent E after_error S settings_at (bytes_taken settings_widths) (ea ∙ front E room (omega arith)) refl in
    let host = lent (E ++ S) after_settings H host_at (bytes_taken host_widths) settings refl in
    let latest = lent (E ++ S ++ H) after_host L latest_at (bytes_taken latest_widths) host refl in
    let tank = lent (E ++ S ++ H ++ L) after_latest T tank_at (bytes_taken tank_widths) latest refl in
    let timers = lent (E ++ S ++ H ++ L ++ T) after_tank R timers_at (bytes_taken timers_widths) tank refl in
    let last : length after_timers ≤ bytes_taken recent_widths = simp length-drop (omega arith) in
    rw (es, eh, el, et, er, ek)
    (lent (E ++ S ++ H ++ L ++ T ++ R) after_timers K recent_at (bytes_taken recent_widths) timers refl
    ∙ ap (λ (l : List ℕ). E ++ S ++ H ++ L ++ T ++ R ++ K ++ l) (drop_of_length-le after_timers last)
    ∙ append-nil (E ++ S ++ H ++ L ++ T ++ R ++ K))

-- ---- stored, then read

-- the recent minute ends the area
recent_part : (s : State) → length s.pack.recent.totals ≡ 60 → between (area_of s) recent_at area_length ≡ recent_bytes s.pack.recent
unfolding area_of
recent_part s n =
    let K = recent_bytes s.pack.recent in
    ap (take (bytes_taken recent_widths)) (sym (append-nil K)) ∙ take_at K [] (bytes_taken recent_widths) (recent-length s.pack.recent n)

same : {e e' : ℕ} {s s' : Settings} {h h' : Host} {l l' : Latest} {t t' : Tank} {r r' : Timers} {k k' : Recent}
    → e ≡ e' → s ≡ s' → h ≡ h' → l ≡ l' → t ≡ t' → r ≡ r' → k ≡ k'
    → ◌≡◌ {A = State}
    (record { error = e; pack = record { settings = s; host = h; latest = l; recent = k; tank = t; timers = r } })
    (record { error = e'; pack = record { settings = s'; host = h'; latest = l'; recent = k'; tank = t'; timers = r' } })
same pe ps ph pl pt pr pk = rw (pe, ps, ph, pl, pt, pr, pk)

pub read_back : (s : State) → Fits s → s.pack.recent.count < 256 → state_in (area_of s) ≡ s
unfolding state_in area_of
read_back s f small =
    let p = f.pack in
    let code : s.error % 256 + 256 * 0 ≡ s.error = omega (arith, f.error) in
    let recent = ap recent_in (recent_part s p.recent.sixty) ∙ recent-back s.pack.recent p.recent small in
    same code (settings_back s.pack.settings p.settings) (host_back s.pack.host p.host) (latest_back s.pack.latest p.latest) (tank_back s.pack.tank p.tank) (timers_back s.pack.timers p.timers) recent

pub area_is : (s : State) → Fits s → is_area (area_of s) ≡ true
unfolding area_of
area_is s f =
    let p = f.pack in
    let size : length (area_of s) ≡ area_length = omega (arith, recent-length s.pack.recent p.recent.sixty) in
    rw (eq-eqb _ _ size, settings_is s.pack.settings p.settings, host_is s.pack.host p.host, tank_is s.pack.tank p.tank)

-- what was stored is loaded
pub loaded_back : (s : State) → Fits s → s.pack.recent.count < 256 → loaded_of (area_of s) ≡ loaded s
unfolding loaded_of
loaded_back s f small = rw (area_is s f, read_back s f small)

-- ---- read, then stored

joined : {e e' s s' h h' l l' t t' r r' k k' : List ℕ} → e ≡ e' → s ≡ s' → h ≡ h' → l ≡ l' → t ≡ t' → r ≡ r' → k ≡ k'
    → e ++ s ++ h ++ l ++ t ++ r ++ k ≡ e' ++ s' ++ h' ++ l' ++ t' ++ r' ++ k'
joined pe ps ph pl pt pr pk = rw (pe, ps, ph, pl, pt, pr, pk)

-- the parts between the places are all bytes
all_parts : (a : List ℕ) → length a ≡ area_length
    → take settings_at a ++ between a settings_at host_at ++ between a host_at latest_at ++ between a latest_at tank_at ++ between a tank_at timers_at ++ between a timers_at recent_at ++ between a recent_at area_length ≡ a
all_parts a size =
    rw (
      ← take-add settings_at (bytes_taken settings_widths) a,
      ← take-add host_at (bytes_taken host_widths) a,
      ← take-add latest_at (bytes_taken latest_widths) a,
      ← take-add tank_at (bytes_taken tank_widths) a,
      ← take-add timers_at (bytes_taken timers_widths) a,
      ← take-add recent_at (bytes_taken recent_widths) a,
    )
    (ap (take area_length) (sym (append-nil a)) ∙ take_at a [] area_length size)

-- what makes bytes an area, test by test
area_tests : (a : List ℕ) → is_area a ≡ true
    → (eqb (length a) area_length ≡ true) × (is_settings (between a settings_at host_at) ≡ true) × (is_host (between a host_at latest_at) ≡ true) × (is_tank (between a tank_at timers_at) ≡ true)
area_tests a is =
    let tank = (and-eq-true_iff _ (is_tank (between a tank_at timers_at))).0 is in
    let host = (and-eq-true_iff _ (is_host (between a host_at latest_at))).0 tank.0 in
    let settings = (and-eq-true_iff (eqb (length a) area_length) (is_settings (between a settings_at host_at))).0 host.0 in
    (settings.0, settings.1, host.1, tank.1)

pub area_size : (a : List ℕ) → is_area a ≡ true → length a ≡ area_length
area_size a is = eqb-true _ _ (area_tests a is).0

pub held : (a : List ℕ) → Bytes a → is_area a ≡ true → area_of (state_in a) ≡ a
unfolding area_of state_in
held a b is =
    let tests = area_tests a is in
    let size = area_size a is in
    joined
    (ap (take settings_at) (number-again a b 1 0 (omega arith)))
    (settings-again (between a settings_at host_at) (bytes_between a b settings_at host_at) (mid_len settings_at host_at a (omega arith)) tests.1)
    (host-again (between a host_at latest_at) (bytes_between a b host_at latest_at) (mid_len host_at latest_at a (omega arith)) tests.2)
    (latest-again (between a latest_at tank_at) (bytes_between a b latest_at tank_at) (mid_len latest_at tank_at a (omega arith)))
    (tank-again (between a tank_at timers_at) (bytes_between a b tank_at timers_at) (mid_len tank_at timers_at a (omega arith)) tests.3)
    (timers-again (between a timers_at recent_at) (bytes_between a b timers_at recent_at) (mid_len timers_at recent_at a (omega arith)))
    (recent-again (between a recent_at area_length) (bytes_between a b recent_at area_length) (mid_len recent_at area_length a (omega arith)))
    ∙ all_parts a size
