-- The entries for C: what comes out of each public function, and what must.
-- Assumes nothing.
use Rattle.std.specs.Prelude.{ℕ, Bool, List, [], ◌∷◌}
use Rattle.calls.specs.Calls.{sample_area, sample_number, sample_room, sound_in, start_area, start_number, transact_area, transact_number, transact_room}
use Rattle.capture.specs.Walk.{opened_of, step_at}
use Rattle.charger_calls.specs.Calls as chargers
use Rattle.key.specs.Key as keys
use Rattle.key_writer.specs.Writing as writing
use Rattle.names.specs.Names as names
use Rattle.outcomes.specs.Outcome.{Terms, terms_of}
use Rattle.start.specs.SetUp.{set_up_of}
use Rattle.packed.specs.Packed.{check_number, comparison_number, located_number, opened_number, read_number, step_number, wrote_number}
use Rattle.pec.specs.Messages.{bit_comparison, exchange_check}
use Rattle.pec.specs.Pec.{pec_of}
use Rattle.sheet.specs.Block.{located_of}
use Rattle.sheet.specs.Sheet.{is_sheet}
use Rattle.sheet_edit.specs.Edit.{edit_of, room_after}
use Rattle.sheet_writer.specs.Writing as sheets
use Rattle.shelf_table.specs.Table.{table_room, table_wrote}
use Rattle.snatchblock.specs.Given.{given_if, sample_with, setup_with, thirteen_setup_with}
use Rattle.thirteen_calls.specs.Calls as thirteens
use Rattle.thirteen_pack.specs.SetUp.{set_up_of as thirteen_set_up_of}
use Rattle.std.proofs.Math.Option.{none, some}
use Rattle.snatchblock.specs.contracts.snatchblock_pec as snatchblock_pec_owed
use Rattle.snatchblock.specs.contracts.snatchblock_exchange_check as snatchblock_exchange_check_owed
use Rattle.snatchblock.specs.contracts.snatchblock_bit_comparison as snatchblock_bit_comparison_owed
use Rattle.snatchblock.specs.contracts.snatchblock_write_key as snatchblock_write_key_owed
use Rattle.snatchblock.specs.contracts.snatchblock_read_key as snatchblock_read_key_owed
use Rattle.snatchblock.specs.contracts.snatchblock_unescape as snatchblock_unescape_owed
use Rattle.snatchblock.specs.contracts.snatchblock_write_sheet as snatchblock_write_sheet_owed
use Rattle.snatchblock.specs.contracts.snatchblock_set_body as snatchblock_set_body_owed
use Rattle.snatchblock.specs.contracts.snatchblock_remove_body as snatchblock_remove_body_owed
use Rattle.snatchblock.specs.contracts.snatchblock_is_sheet as snatchblock_is_sheet_owed
use Rattle.snatchblock.specs.contracts.snatchblock_block as snatchblock_block_owed
use Rattle.snatchblock.specs.contracts.snatchblock_open_capture as snatchblock_open_capture_owed
use Rattle.snatchblock.specs.contracts.snatchblock_step_capture as snatchblock_step_capture_owed
use Rattle.snatchblock.specs.contracts.snatchblock_shelf_report as snatchblock_shelf_report_owed
use Rattle.snatchblock.specs.contracts.snatchblock_set_up as snatchblock_set_up_owed
use Rattle.snatchblock.specs.contracts.snatchblock_sound as snatchblock_sound_owed
use Rattle.snatchblock.specs.contracts.snatchblock_sample as snatchblock_sample_owed
use Rattle.snatchblock.specs.contracts.snatchblock_transact as snatchblock_transact_owed
use Rattle.snatchblock.specs.contracts.snatchblock_charger_set_up as snatchblock_charger_set_up_owed
use Rattle.snatchblock.specs.contracts.snatchblock_charger_sound as snatchblock_charger_sound_owed
use Rattle.snatchblock.specs.contracts.snatchblock_charger_sample as snatchblock_charger_sample_owed
use Rattle.snatchblock.specs.contracts.snatchblock_charger_transact as snatchblock_charger_transact_owed
use Rattle.snatchblock.specs.contracts.snatchblock_charger_current as snatchblock_charger_current_owed
use Rattle.snatchblock.specs.contracts.snatchblock_thirteen_set_up as snatchblock_thirteen_set_up_owed
use Rattle.snatchblock.specs.contracts.snatchblock_thirteen_sound as snatchblock_thirteen_sound_owed
use Rattle.snatchblock.specs.contracts.snatchblock_thirteen_sample as snatchblock_thirteen_sample_owed
use Rattle.snatchblock.specs.contracts.snatchblock_thirteen_transact as snatchblock_thirteen_transact_owed

-- `snatchblock_pec`
abbrev pub snatchblock_pec_terms : Terms snatchblock_pec_owed.ended
snatchblock_pec_terms = terms_of
    (ℕ ∷ [])
    (λ κs r _. (r, tt))
    (λ κs (bytes, _). (pec_of bytes.now, tt))

-- `snatchblock_exchange_check`
abbrev pub snatchblock_exchange_check_terms : Terms snatchblock_exchange_check_owed.ended
snatchblock_exchange_check_terms = terms_of
    (ℕ ∷ [])
    (λ κs r _. (r, tt))
    (λ κs (bytes, _). (check_number (exchange_check bytes.now), tt))

-- `snatchblock_bit_comparison`
abbrev pub snatchblock_bit_comparison_terms : Terms snatchblock_bit_comparison_owed.ended
snatchblock_bit_comparison_terms = terms_of
    (ℕ ∷ [])
    (λ κs r _. (r, tt))
    (λ κs (a, (b, _)). (comparison_number (bit_comparison a.now b.now), tt))

-- `snatchblock_write_key`
abbrev pub snatchblock_write_key_terms : Terms snatchblock_write_key_owed.ended
snatchblock_write_key_terms = terms_of
    (ℕ ∷ List ℕ ∷ [])
    (λ κs r (_, (_, (_, (_, (room, _))))). (r, (room.now, tt)))
    (λ κs (maker, (device, (date, (serial, (room, _))))). (wrote_number (writing.key_wrote maker.now device.now date serial room.now), (writing.key_room maker.now device.now date serial room.now, tt)))

-- `snatchblock_read_key`
abbrev pub snatchblock_read_key_terms : Terms snatchblock_read_key_owed.ended
snatchblock_read_key_terms = terms_of
    (ℕ ∷ [])
    (λ κs r _. (r, tt))
    (λ κs (key, _). (read_number (keys.read_key key.now), tt))

-- `snatchblock_unescape`
abbrev pub snatchblock_unescape_terms : Terms snatchblock_unescape_owed.ended
snatchblock_unescape_terms = terms_of
    (ℕ ∷ List ℕ ∷ [])
    (λ κs r (_, (room, _)). (r, (room.now, tt)))
    (λ κs (part, (room, _)). (wrote_number (names.plain_wrote (names.name_in part.now) room.now), (names.plain_room (names.name_in part.now) room.now, tt)))

-- `snatchblock_write_sheet`
abbrev pub snatchblock_write_sheet_terms : Terms snatchblock_write_sheet_owed.ended
snatchblock_write_sheet_terms = terms_of
    (ℕ ∷ List ℕ ∷ [])
    (λ κs r (room, (_, (_, (_, (_, (_, (_, (_, (_, _))))))))). (r, (room.now, tt)))
    (λ κs (room, (has20, (body20, (has21, (body21, (has22, (body22, (has23, (body23, _))))))))). (wrote_number (sheets.sheet_wrote (sheets.choice (given_if has20 body20.now) (given_if has21 body21.now) (given_if has22 body22.now) (given_if has23 body23.now)) room.now), (sheets.sheet_room (sheets.choice (given_if has20 body20.now) (given_if has21 body21.now) (given_if has22 body22.now) (given_if has23 body23.now)) room.now, tt)))

-- `snatchblock_set_body`
abbrev pub snatchblock_set_body_terms : Terms snatchblock_set_body_owed.ended
snatchblock_set_body_terms = terms_of
    (ℕ ∷ List ℕ ∷ [])
    (λ κs r (room, (_, (_, (_, _)))). (r, (room.now, tt)))
    (λ κs (room, (stated, (tag, (body, _)))). (wrote_number (edit_of room.now stated tag (some body.now)), (room_after room.now stated tag (some body.now), tt)))

-- `snatchblock_remove_body`
abbrev pub snatchblock_remove_body_terms : Terms snatchblock_remove_body_owed.ended
snatchblock_remove_body_terms = terms_of
    (ℕ ∷ List ℕ ∷ [])
    (λ κs r (room, (_, (_, _))). (r, (room.now, tt)))
    (λ κs (room, (stated, (tag, _))). (wrote_number (edit_of room.now stated tag none), (room_after room.now stated tag none, tt)))

-- `snatchblock_is_sheet`
abbrev pub snatchblock_is_sheet_terms : Terms snatchblock_is_sheet_owed.ended
snatchblock_is_sheet_terms = terms_of
    (Bool ∷ [])
    (λ κs r _. (r, tt))
    (λ κs (bytes, _). (is_sheet bytes.now, tt))

-- `snatchblock_block`
abbrev pub snatchblock_block_terms : Terms snatchblock_block_owed.ended
snatchblock_block_terms = terms_of
    (ℕ ∷ [])
    (λ κs r _. (r, tt))
    (λ κs (service, (factory, (tag, _))). (located_number (located_of service.now factory.now tag), tt))

-- `snatchblock_open_capture`
abbrev pub snatchblock_open_capture_terms : Terms snatchblock_open_capture_owed.ended
snatchblock_open_capture_terms = terms_of
    (ℕ ∷ [])
    (λ κs r _. (r, tt))
    (λ κs (bytes, _). (opened_number (opened_of bytes.now), tt))

-- `snatchblock_step_capture`
abbrev pub snatchblock_step_capture_terms : Terms snatchblock_step_capture_owed.ended
snatchblock_step_capture_terms = terms_of
    (ℕ ∷ [])
    (λ κs r _. (r, tt))
    (λ κs (bytes, (row, (place, _))). (step_number place (step_at bytes.now row place), tt))

-- `snatchblock_shelf_report`
abbrev pub snatchblock_shelf_report_terms : Terms snatchblock_shelf_report_owed.ended
snatchblock_shelf_report_terms = terms_of
    (ℕ ∷ List ℕ ∷ [])
    (λ κs r (_, (room, _)). (r, (room.now, tt)))
    (λ κs (table, (room, _)). (wrote_number (table_wrote table.now room.now), (table_room table.now room.now, tt)))

-- `snatchblock_set_up`
abbrev pub snatchblock_set_up_terms : Terms snatchblock_set_up_owed.ended
snatchblock_set_up_terms = terms_of
    (ℕ ∷ List ℕ ∷ [])
    (λ κs r (area, (_, (_, (_, (_, (_, (_, (_, (_, (_, (_, (_, (_, (_, (_, (_, (_, (_, _)))))))))))))))))). (r, (area.now, tt)))
    (λ κs (area, (DesignCapacity, (full, (remaining, (DesignVoltage, (MaxError, (CycleCount, (ManufactureDate, (SerialNumber, (ChargingCurrent, (ChargingVoltage, (TemperatureLimit, (DischargeLimit, (plain, (voltage, (current, (temperature, (counter, _)))))))))))))))))). (start_number area.now (set_up_of (setup_with DesignCapacity full remaining DesignVoltage MaxError CycleCount ManufactureDate SerialNumber ChargingCurrent ChargingVoltage TemperatureLimit DischargeLimit plain) (sample_with voltage current temperature counter)), (start_area area.now (set_up_of (setup_with DesignCapacity full remaining DesignVoltage MaxError CycleCount ManufactureDate SerialNumber ChargingCurrent ChargingVoltage TemperatureLimit DischargeLimit plain) (sample_with voltage current temperature counter)), tt)))

-- `snatchblock_sound`
abbrev pub snatchblock_sound_terms : Terms snatchblock_sound_owed.ended
snatchblock_sound_terms = terms_of
    (Bool ∷ [])
    (λ κs r _. (r, tt))
    (λ κs (area, _). (sound_in area.now, tt))

-- `snatchblock_sample`
abbrev pub snatchblock_sample_terms : Terms snatchblock_sample_owed.ended
snatchblock_sample_terms = terms_of
    (ℕ ∷ List ℕ ∷ List ℕ ∷ [])
    (λ κs r (area, (_, (_, (_, (_, (room, _)))))). (r, (area.now, (room.now, tt))))
    (λ κs (area, (voltage, (current, (temperature, (counter, (room, _)))))). (sample_number area.now (sample_with voltage current temperature counter) room.now, (sample_area area.now (sample_with voltage current temperature counter) room.now, (sample_room area.now (sample_with voltage current temperature counter) room.now, tt))))

-- `snatchblock_transact`
abbrev pub snatchblock_transact_terms : Terms snatchblock_transact_owed.ended
snatchblock_transact_terms = terms_of
    (ℕ ∷ List ℕ ∷ List ℕ ∷ [])
    (λ κs r (area, (_, (_, (_, (_, (room, _)))))). (r, (area.now, (room.now, tt))))
    (λ κs (area, (service, (factory, (read, (bytes, (room, _)))))). (transact_number area.now service.now factory.now read bytes.now room.now, (transact_area area.now service.now factory.now read bytes.now room.now, (transact_room area.now service.now factory.now read bytes.now room.now, tt))))

-- `snatchblock_charger_set_up`
abbrev pub snatchblock_charger_set_up_terms : Terms snatchblock_charger_set_up_owed.ended
snatchblock_charger_set_up_terms = terms_of
    (ℕ ∷ List ℕ ∷ [])
    (λ κs r (area, (_, (_, (_, (_, _))))). (r, (area.now, tt)))
    (λ κs (area, (voltage, (current, (temperature, (counter, _))))). (chargers.start_number area.now, (chargers.start_area area.now (sample_with voltage current temperature counter), tt)))

-- `snatchblock_charger_sound`
abbrev pub snatchblock_charger_sound_terms : Terms snatchblock_charger_sound_owed.ended
snatchblock_charger_sound_terms = terms_of
    (Bool ∷ [])
    (λ κs r _. (r, tt))
    (λ κs (area, _). (chargers.sound_in area.now, tt))

-- `snatchblock_charger_sample`
abbrev pub snatchblock_charger_sample_terms : Terms snatchblock_charger_sample_owed.ended
snatchblock_charger_sample_terms = terms_of
    (ℕ ∷ List ℕ ∷ [])
    (λ κs r (area, (_, (_, (_, (_, _))))). (r, (area.now, tt)))
    (λ κs (area, (voltage, (current, (temperature, (counter, _))))). (chargers.sample_number area.now (sample_with voltage current temperature counter), (chargers.sample_area area.now (sample_with voltage current temperature counter), tt)))

-- `snatchblock_charger_transact`
abbrev pub snatchblock_charger_transact_terms : Terms snatchblock_charger_transact_owed.ended
snatchblock_charger_transact_terms = terms_of
    (ℕ ∷ List ℕ ∷ List ℕ ∷ [])
    (λ κs r (area, (_, (_, (room, _)))). (r, (area.now, (room.now, tt))))
    (λ κs (area, (read, (bytes, (room, _)))). (chargers.transact_number area.now read bytes.now room.now, (chargers.transact_area area.now read bytes.now room.now, (chargers.transact_room area.now read bytes.now room.now, tt))))

-- `snatchblock_charger_current`
abbrev pub snatchblock_charger_current_terms : Terms snatchblock_charger_current_owed.ended
snatchblock_charger_current_terms = terms_of
    (ℕ ∷ [])
    (λ κs r _. (r, tt))
    (λ κs (area, _). (chargers.current_number area.now, tt))

-- `snatchblock_thirteen_set_up`
abbrev pub snatchblock_thirteen_set_up_terms : Terms snatchblock_thirteen_set_up_owed.ended
snatchblock_thirteen_set_up_terms = terms_of
    (ℕ ∷ List ℕ ∷ [])
    (λ κs r (area, (_, (_, (_, (_, (_, (_, (_, (_, (_, (_, _))))))))))). (r, (area.now, tt)))
    (λ κs (area, (DesignCapacity, (full, (remaining, (DesignVoltage, (StateOfHealth, (voltage, (current, (temperature, (counter, (cells, _))))))))))). (thirteens.start_number area.now (thirteen_set_up_of (thirteen_setup_with DesignCapacity full remaining DesignVoltage) StateOfHealth (sample_with voltage current temperature counter) cells.now), (thirteens.start_area area.now (thirteen_set_up_of (thirteen_setup_with DesignCapacity full remaining DesignVoltage) StateOfHealth (sample_with voltage current temperature counter) cells.now), tt)))

-- `snatchblock_thirteen_sound`
abbrev pub snatchblock_thirteen_sound_terms : Terms snatchblock_thirteen_sound_owed.ended
snatchblock_thirteen_sound_terms = terms_of
    (Bool ∷ [])
    (λ κs r _. (r, tt))
    (λ κs (area, _). (thirteens.sound_in area.now, tt))

-- `snatchblock_thirteen_sample`
abbrev pub snatchblock_thirteen_sample_terms : Terms snatchblock_thirteen_sample_owed.ended
snatchblock_thirteen_sample_terms = terms_of
    (ℕ ∷ List ℕ ∷ [])
    (λ κs r (area, (_, (_, (_, (_, (_, _)))))). (r, (area.now, tt)))
    (λ κs (area, (voltage, (current, (temperature, (counter, (cells, _)))))). (thirteens.sample_number area.now (sample_with voltage current temperature counter) cells.now, (thirteens.sample_area area.now (sample_with voltage current temperature counter) cells.now, tt)))

-- `snatchblock_thirteen_transact`
abbrev pub snatchblock_thirteen_transact_terms : Terms snatchblock_thirteen_transact_owed.ended
snatchblock_thirteen_transact_terms = terms_of
    (ℕ ∷ List ℕ ∷ List ℕ ∷ [])
    (λ κs r (area, (_, (_, (room, _)))). (r, (area.now, (room.now, tt))))
    (λ κs (area, (read, (bytes, (room, _)))). (thirteens.transact_number area.now read bytes.now room.now, (thirteens.transact_area area.now read bytes.now room.now, (thirteens.transact_room area.now read bytes.now room.now, tt))))
