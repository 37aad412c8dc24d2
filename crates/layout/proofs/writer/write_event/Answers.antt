-- The tests of the definition; an event that can be written has fields that fit its header. Assumes nothing.
use mathlib.Core.Path.{◌≡◌, sym, ap, ◌∙◌}
use mathlib.Core.Bool.{true, not}
use Prim.Native.Nat.{◌≤◌}
use lib.ListN.{length}
use Rattle.count.proofs.Tests.{holds}
use Rattle.std.specs.Prelude.{Ok}
use Rattle.layout.specs.Length.{event_length}
use Rattle.layout.specs.Writer.{writable, write_answer, write_words}
use Rattle.layout.proofs.Answers.{fields_fit_lem, writable_parts}
use Rattle.layout.proofs.Written.{write_answers, stored_words_lem, write_leaves}
use Rattle.layout.proofs.Lengths.{length_of}
use Rattle.layout.proofs.writer.write_event.Goals as goal

pub put_event-requires : goal.put_event-requires
put_event-requires c = let s = c.args in
    let w = c.is_writable in
    let f = fields_fit_lem s.event (writable_parts s.settings s.event (holds w.ensures (ap not c.if-not-is_writable.false))).0 in
    (f.0, f.1, f.2, rw (length_of s.settings c.event_length-length.ensures) c.if-words-length.false)

pub returns : goal.returns
unfolding write_answer write_words
returns c = let s = c.args in
    let w = c.is_writable in
    let e = length_of s.settings c.event_length-length.ensures in
    let some : event_length s.settings ≡ 0 → ⊥ = rw e c.if-length-eq0.false in
    let can : writable s.settings s.event ≡ true = holds w.ensures (ap not c.if-not-is_writable.false) in
    let room : event_length s.settings ≤ length s.words.now = rw e c.if-words-length.false in (
      ap Ok c.event_length-length.ensures ∙ sym (write_answers s.settings s.event s.words.now some can room),
      c.put_event.ensures ∙ stored_words_lem s.settings s.event s.words.now room ∙ sym (write_leaves s.settings s.event s.words.now some can room),
    )
