use mathlib.Core.Path.{◌≡◌, ap, sym, ◌∙◌}
use native.Mathlib.Omega.{arith}
use Rattle.std.proofs.Common.{rules}
use Rattle.std.specs.Prelude.{Err}
use Prim.Native.Nat.{◌+◌}
use lib.ListN.{drop}
use Rattle.names.specs.Names.{read_plain}
use Rattle.names.proofs.Strokes.{named, unnamed}
use Rattle.key.specs.Key.{read_key, found_of}
use Rattle.key.proofs.Keys.{reason, no_maker, no_device, no_words, is_found}
use Rattle.key.proofs.find.Goals as goal

pub returns-in_err-maker_end : goal.returns-in_err-maker_end
returns-in_err-maker_end c =
    let k = c.args.key.now in
    let e = c.in_err-maker_end in
    let u = unnamed (read_plain k) 0 (sym e.ensures.ok_part ∙ c.stroke.ensures) in
    let h : Err e.field-0.0 ≡ found_of (read_key k) = ap Err (reason e.field-0.0 e.ensures.ok_part e.ensures.value) ∙ no_maker k u in
    search rules

pub overflow_add-device_start : goal.overflow_add-device_start
overflow_add-device_start c =
    let m = named c.args.key.now 0 c.in_ok-maker_end.maker_end (sym c.in_ok-maker_end.ensures.ok_part ∙ c.stroke.ensures) in
    omega (arith, m.within)

pub returns-in_err-device_end : goal.returns-in_err-device_end
returns-in_err-device_end c =
    let k = c.args.key.now in
    let a = c.in_ok-maker_end.maker_end in
    let e = c.in_err-device_end in
    let m = named k 0 a (sym c.in_ok-maker_end.ensures.ok_part ∙ c.stroke.ensures) in
    let u = unnamed (read_plain (drop (a + 1) k)) (a + 1) (sym e.ensures.ok_part ∙ c.stroke-2.ensures) in
    let h : Err e.field-0.0 ≡ found_of (read_key k) = ap Err (reason e.field-0.0 e.ensures.ok_part e.ensures.value) ∙ no_device k a m u in
    search rules

pub overflow_add-device_end : goal.overflow_add-device_end
overflow_add-device_end c =
    let d = named c.args.key.now (c.in_ok-maker_end.maker_end + 1) c.in_ok-device_end.device_end (sym c.in_ok-device_end.ensures.ok_part ∙ c.stroke-2.ensures) in
    omega (arith, d.within)

pub both_words-requires : goal.both_words-requires
both_words-requires c =
    let d = named c.args.key.now (c.in_ok-maker_end.maker_end + 1) c.in_ok-device_end.device_end (sym c.in_ok-device_end.ensures.ok_part ∙ c.stroke-2.ensures) in
    omega (arith, d.within)

pub returns-in_err-date : goal.returns-in_err-date
returns-in_err-date c =
    let k = c.args.key.now in
    let a = c.in_ok-maker_end.maker_end in
    let b = c.in_ok-device_end.device_end in
    let e = c.in_err-date in
    let m = named k 0 a (sym c.in_ok-maker_end.ensures.ok_part ∙ c.stroke.ensures) in
    let d = named k (a + 1) b (sym c.in_ok-device_end.ensures.ok_part ∙ c.stroke-2.ensures) in
    let h : Err e.field-0.0 ≡ found_of (read_key k) = ap Err (reason e.field-0.0 e.ensures.ok_part e.ensures.value) ∙ no_words k a b m d (sym e.ensures.ok_part ∙ c.both_words.ensures) in
    search rules

pub returns : goal.returns
returns c =
    let k = c.args.key.now in
    let a = c.in_ok-maker_end.maker_end in
    let b = c.in_ok-device_end.device_end in
    let m = named k 0 a (sym c.in_ok-maker_end.ensures.ok_part ∙ c.stroke.ensures) in
    let d = named k (a + 1) b (sym c.in_ok-device_end.ensures.ok_part ∙ c.stroke-2.ensures) in
    is_found k a b m d (sym c.in_ok-date.ensures.ok_part ∙ c.both_words.ensures)
