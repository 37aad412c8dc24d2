use Rattle.std.proofs.Common.{◌≡◌, ℕ, ◌+◌, ◌-◌, ◌/◌, ◌%◌, ◌^◌, ◌<◌, List, length, drop, sym, refl, ap, ◌∙◌, arith, length-drop}
use borrow.Author.Rules.{part_to_end}
use Rattle.benchlog.specs.Entries.{entry_at}
use Rattle.meb.specs.Ring.{lent}
use Rattle.night.specs.declared.Taken.{Taken}
use Rattle.night.proofs.Going.{start, again, within, stops_part, stops_lent, stops_puts, ends}
use Rattle.night.proofs.Sound.{words, taken_sound}
use Rattle.night.proofs.run.Goals as goal

pub loop-init : goal.loop-init
loop-init c =
    let left : length c.args.out.now / 63 - 0 ≡ length c.args.out.now / 63 = omega arith in
    (refl, c.requires, rw left (start _ _ _ _ _ _ (omega arith)), c.counted_to-number.ensures)

pub returns-in-Err : goal.returns-in-Err
returns-in-Err c = let i = c in
    let log = i.args.log.now in
    let r = (ap (λ (b : List ℕ). entry_at b 0) (sym (part_to_end c.args.log.now c.loop.used)) ∙ sym c.read_entry.ensures) ∙ c.in-Err.is in
    let g = i.loop.invariant.2 in
    let h : 0 < length i.args.out.now / 63 - i.loop.counter = omega (arith, c.loop-test.true) in
    let s = rw (part_to_end log i.loop.used) at c.stop.ensures in
    (s.0 ∙ stops_part _ h g _ _ r, ap words (stops_lent _ h g _ _ r), s.1 ∙ stops_puts _ h g _ _ r)

pub overflow_add-used : goal.overflow_add-used
overflow_add-used c = let i = c in
    let log = i.args.log.now in
    let r = (ap (λ (b : List ℕ). entry_at b 0) (sym (part_to_end c.args.log.now c.loop.used)) ∙ sym c.read_entry.ensures) ∙ c.in-Ok.is in
    omega (arith, within (drop i.loop.used log) _ r, length-drop i.loop.used log, i.loop.invariant.2.in_log)

pub loop-preserved : goal.loop-preserved
loop-preserved c = let i = c in
    let r = (ap (λ (b : List ℕ). entry_at b 0) (sym (part_to_end c.args.log.now c.loop.used)) ∙ sym c.read_entry.ensures) ∙ c.in-Ok.is in
    let t = c.take-taken in
    let p = c.put_entry-at in
    let n = c.counted_up-number.ensures ∙ ap (λ (k : ℕ). (k + 1) % 2 ^ 64) i.loop.invariant.3 in
    let q = rw (n ∙ sym (ap (λ (k : Taken). k.entry) t.ensures.0)) at p.ensures in
    let left : length c.args.out.now / 63 - (i.loop.counter + 1) ≡ length c.args.out.now / 63 - i.loop.counter - 1 = omega arith in
    (t.auto.memory ∙ i.loop.invariant.0, taken_sound i.loop.now (lent i.loop.memory) _ _ t.result _ _ r i.loop.invariant.1 t.ensures.0 t.ensures.1, rw left (again (length c.args.out.now / 63 - i.loop.counter) _ _ t.result _ p.result _ (omega (arith, c.loop-test.true)) i.loop.invariant.2 r t.ensures.0 (ap lent t.ensures.1) q.0 q.1), n ∙ sym (ap (λ (k : Taken). k.night.entries) t.ensures.0))

pub returns : goal.returns
returns c = let i = c in
    let z : length c.args.out.now / 63 - i.loop.counter ≡ 0 = omega (arith, c.loop-test.false) in
    let e = ends (rw z at i.loop.invariant.2) in
    (c.here.ensures ∙ e.0, ap words e.1, e.2)
