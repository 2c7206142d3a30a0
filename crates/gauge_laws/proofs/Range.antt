-- Every word is below 65,536.
-- Assumes nothing.
use Prim.Native.Nat.{ℕ, ◌≤◌, ◌<◌}
use mathlib.Core.Bool.{Bool, cond}
use native.Mathlib.Omega.{arith}
use lib.Dec.{eqb}
use Rattle.capacity.proofs.Bounds.{either, at_most}
use Rattle.alarms.specs.Alarms.{terminate_charge}
use Rattle.gauge.specs.Word.{given_of}
use Rattle.gauge_laws.proofs.Bits.{status_most}
use Rattle.gauge_laws.proofs.Hundred.{relative_most}
use Rattle.gauge_laws.specs.Promises.{WordsBelow}
use Rattle.minutes.proofs.Laws.{time_word_below}
use Rattle.minutes.specs.Minutes.{given_word}
use Rattle.minutes.specs.declared.Given.{Given}
use Rattle.pack.proofs.Soundness.{parts, pack_of_sound, code_of_sound}
use Rattle.pack.specs.declared.Host.{Host}
use Rattle.pack.specs.declared.Pack.{Pack}
use Rattle.recent.proofs.Bound.{average_word}
use Rattle.registers.proofs.Laws.{remaining_at_most_full}
use Rattle.registers.specs.Registers.{battery_mode, average_current, capacity_of, full_charge_capacity, remaining_capacity, design_capacity}
use Rattle.times.specs.Times.{missing, rate_of, covers}
use Rattle.words.specs.Words.{above, below, size_of}

-- one of two words is a word
pub pick : (b : Bool) (x y : ℕ) → x < 65536 → y < 65536 → cond b x y < 65536
pick = either (λ n. n < 65536)

bit_most : (on : Bool) (weight : ℕ) → cond on weight 0 ≤ weight
bit_most on weight = at_most on weight 0 weight (omega arith) (omega arith)

mode_word : (h : Host) → battery_mode h < 65536
mode_word h = omega (arith, bit_most h.AlarmMode 8192, bit_most h.ChargerMode 16384, bit_most h.CapacityMode 32768)

-- a capacity of 16 bits stays one in either mode
capacity_word : (p : Pack) (capacity : ℕ) → capacity < 65536 → capacity_of p capacity < 65536
capacity_word p capacity h = pick p.host.CapacityMode _ _ (omega arith) h

-- of two that a register gives, one with a word below 65,536
pub row : (b : Bool) (x y : Given) → given_word x < 65536 → given_word y < 65536 → given_word (cond b x y) < 65536
row = either (λ g. given_word g < 65536)

-- every word of a sound state is below 65,536
pub word_below : WordsBelow
unfolding given_of full_charge_capacity design_capacity
word_below s command h f =
    let p = s.pack in
    let rate = p.host.AtRate in
    let now = p.latest.current in
    let mean = average_current p in
    let full = capacity_word p p.tank.full f.tank.full in
    row (eqb command 0x00) _ _ f.host.ManufacturerAccess
    (row (eqb command 0x01) _ _ f.host.RemainingCapacityAlarm
    (row (eqb command 0x02) _ _ f.host.RemainingTimeAlarm
    (row (eqb command 0x03) _ _ (mode_word p.host)
    (row (eqb command 0x04) _ _ f.host.AtRate
    (row (eqb command 0x05) _ _ (row p.host.CapacityMode _ _ (omega arith) (time_word_below (above rate) (missing p) (size_of rate)))
    (row (eqb command 0x06) _ _ (time_word_below (below rate) (remaining_capacity p) (size_of rate))
    (row (eqb command 0x07) _ _ (pick (below rate) _ _ (pick (covers p) _ _ (omega arith) (omega arith)) (omega arith))
    (row (eqb command 0x08) _ _ f.latest.temperature
    (row (eqb command 0x09) _ _ f.latest.voltage
    (row (eqb command 0x0A) _ _ f.latest.current
    (row (eqb command 0x0B) _ _ (average_word p.recent now (parts p (pack_of_sound s h)).recent f.latest.current)
    (row (eqb command 0x0C) _ _ f.settings.MaxError
    (row (eqb command 0x0D) _ _ (omega (arith, relative_most s h))
    (row (eqb command 0x0E) _ _ (omega arith)
    (row (eqb command 0x0F) _ _ (omega (arith, remaining_at_most_full p (parts p (pack_of_sound s h)).tank, full))
    (row (eqb command 0x10) _ _ full
    (row (eqb command 0x11) _ _ (time_word_below (below now) (remaining_capacity p) (rate_of p now))
    (row (eqb command 0x12) _ _ (time_word_below (below mean) (remaining_capacity p) (rate_of p mean))
    (row (eqb command 0x13) _ _ (time_word_below (above mean) (missing p) (rate_of p mean))
    (row (eqb command 0x14) _ _ (pick (terminate_charge p) _ _ (omega arith) f.settings.ChargingCurrent)
    (row (eqb command 0x15) _ _ f.settings.ChargingVoltage
    (row (eqb command 0x16) _ _ (omega (arith, status_most p, code_of_sound s h))
    (row (eqb command 0x17) _ _ f.tank.CycleCount
    (row (eqb command 0x18) _ _ (capacity_word p p.settings.DesignCapacity f.settings.DesignCapacity)
    (row (eqb command 0x19) _ _ f.settings.DesignVoltage
    (row (eqb command 0x1A) _ _ (omega arith)
    (row (eqb command 0x1B) _ _ f.settings.ManufactureDate
    (row (eqb command 0x1C) _ _ f.settings.SerialNumber
    (omega arith)))))))))))))))))))))))))))))
