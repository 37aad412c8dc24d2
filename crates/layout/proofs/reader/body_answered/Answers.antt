-- Behind data that are right nothing is refused. Assumes nothing.
use mathlib.Core.Path.{sym, ap, ◌∙◌}
use Prim.Native.Nat.{◌≤◌}
use borrow.Author.Tests.{le-leb}
use lib.ListN.{length, drop}
use Rattle.std.specs.Prelude.{Ok}
use Rattle.std.proofs.lemmas.Result.{err_from_is_err_and}
use Rattle.layout.specs.Length.{event_length, header_length, enabled_channels}
use Rattle.layout.specs.Numbers.{gives_length}
use Rattle.layout.specs.Reader.{body_answer}
use Rattle.layout.proofs.Answers.{data_onward}
use Rattle.layout.proofs.Lengths.{length_of, behind_place, behind_header}
use Rattle.layout.proofs.reader.body_answered.Goals as goal

pub data_answered-requires : goal.data_answered-requires
data_answered-requires c = let s = c.args in
    let h : event_length s.settings ≤ length s.words.now = rw (length_of s.settings c.event_length-length.ensures) c.if-words-length.false in
    rw (behind_place s.words.now _ _ c.data_place.ensures) (behind_header s.settings s.words.now h)

pub returns-in_err-data_answered : goal.returns-in_err-data_answered
unfolding body_answer
returns-in_err-data_answered c = let s = c.args in
    let h : event_length s.settings ≤ length s.words.now = rw (length_of s.settings c.event_length-length.ensures) c.if-words-length.false in
    let p = err_from_is_err_and c.from_residual.result c.from_residual.ensures.1 in
    let d = data_onward (enabled_channels s.settings.enable) (drop (header_length s.settings) s.words.now) (gives_length s.settings) in
    let a = rw (behind_place s.words.now _ _ c.data_place.ensures) at c.data_answered.ensures in
    rw (p.1, p.2, le-leb (event_length s.settings) (length s.words.now) h, c.if-settings.true) (sym (rw (sym a ∙ c.in_err-data_answered.was) at d))

pub returns-in_ok-data_answered : goal.returns-in_ok-data_answered
unfolding body_answer
returns-in_ok-data_answered c = let s = c.args in
    let h : event_length s.settings ≤ length s.words.now = rw (length_of s.settings c.event_length-length.ensures) c.if-words-length.false in
    let d = data_onward (enabled_channels s.settings.enable) (drop (header_length s.settings) s.words.now) (gives_length s.settings) in
    let a = rw (behind_place s.words.now _ _ c.data_place.ensures) at c.data_answered.ensures in
    rw (le-leb (event_length s.settings) (length s.words.now) h, c.if-settings.true)
    (ap Ok c.event_length-length.ensures ∙ sym (rw (sym a ∙ c.in_ok-data_answered.was) at d))
