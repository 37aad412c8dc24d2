-- The listing of a log that is streamed: however the log is cut into pieces and whatever buffers its lines are shown
-- in, the lines shown one after the other are the listing of the whole log. Carried by Continued, turn by turn.
-- Assumes nothing.
use Rattle.std.proofs.Common.{◌≡◌, ℕ, suc, ◌/◌, Bool, true, List, [], ◌∷◌, ◌++◌, length, drop, sym, ap, ◌∙◌, append_assoc, append-nil, arith}
use mathlib.Core.Bool.{false≢true}
use Rattle.std.specs.Prelude.{Ok, Err}
use Rattle.bus.specs.Answers.{Answer, is_done}
use Rattle.meb.specs.Ring.{Memory}
use Rattle.v830.specs.Calls.{gate_of}
use Rattle.night.specs.declared.Night.{Night}
use Rattle.night.specs.declared.Next.{Next}
use Rattle.night.specs.declared.Next.TheVariants.{Lines, Bytes, Nothing, Faulted, Refused}
use Rattle.night.specs.Lines.{Line, Heading, begun_at}
use Rattle.night.specs.Runs.{Run, let_pass, run_of, run_for, lines_of, fresh_words, listing}
use Rattle.night.specs.Streams.{Turn, Streamed, turned, streamed, all_bytes, Fed}
use Rattle.night.proofs.Continued.{following, continued}
use Rattle.night.proofs.Sound.{gate_sound, sound_gate, run_sound}

-- a turn, where the turns behind it show the lines of `behind`
turned_lines : (x : Next) (ls : List Line) (rest : Streamed) (behind : List Line) → (rest.over ≡ true → rest.lines ≡ behind)
    → (turned x ls rest).over ≡ true → (turned x ls rest).lines ≡ ls ++ following x behind
turned_lines Lines ls rest behind h o = ap (λ (l : List Line). ls ++ l) (h o)
turned_lines Bytes ls rest behind h o = ap (λ (l : List Line). ls ++ l) (h o)
turned_lines Nothing ls rest behind h o = sym (append-nil ls)
turned_lines (Faulted number) ls rest behind h o = sym (append-nil ls)
turned_lines (Refused why) ls rest behind h o = absurd (false≢true o)

-- what a run and the turns behind it show
abbrev shown_by : Run → List ℕ → List Turn → Streamed
shown_by r bytes ts = turned r.next r.lines (streamed r.night r.memory (drop r.used bytes) ts)

-- from any night, with any lent words and bytes held back; one that is refused does not come to its end
pub streamed_is_whole : (ts : List Turn) (n : Night) (memory : Memory) (held : List ℕ) → Fed ts → (streamed n memory held ts).over ≡ true
    → (streamed n memory held ts).lines ≡ lines_of (held ++ all_bytes ts) n memory
unfolding streamed all_bytes
streamed_is_whole [] n memory held f o = absurd (false≢true o)
streamed_is_whole (t ∷ ts) n memory held f o = go (gate_of n.v830 memory) (λ n₁ m₁ h. streamed_is_whole ts n₁ m₁ h f.1) o
  where
    go : (a : Answer)
        → ((n₁ : Night) (m₁ : Memory) (h : List ℕ) → (streamed n₁ m₁ h ts).over ≡ true → (streamed n₁ m₁ h ts).lines ≡ lines_of (h ++ all_bytes ts) n₁ m₁)
        → (shown_by (let_pass a (run_for t.out t.last (held ++ t.bytes) n memory) n memory) (held ++ t.bytes) ts).over ≡ true
        → (shown_by (let_pass a (run_for t.out t.last (held ++ t.bytes) n memory) n memory) (held ++ t.bytes) ts).lines ≡ lines_of (held ++ (t.bytes ++ all_bytes ts)) n memory
    go (Ok value) rest o =
        let bytes : List ℕ = held ++ t.bytes in
        let r : Run = run_for t.out t.last bytes n memory in
        let left : List ℕ = drop r.used bytes in
        turned_lines r.next r.lines (streamed r.night r.memory left ts) (lines_of (left ++ all_bytes ts) r.night r.memory)
        (rest r.night r.memory left) o
        ∙ sym (continued (all_bytes ts) t.last f.0 (length t.out / 63) (suc (length (bytes ++ all_bytes ts))) bytes n memory (omega arith))
        ∙ ap (λ (b : List ℕ). lines_of b n memory) (append_assoc held t.bytes (all_bytes ts))
    go (Err why) rest o = absurd (false≢true o)

-- ---- the theorem: under the first line
pub streamed_is_the_listing : (ts : List Turn) → Fed ts
    → (streamed (begun_at fresh_words) fresh_words [] ts).over ≡ true
    → Heading ∷ (streamed (begun_at fresh_words) fresh_words [] ts).lines ≡ listing (all_bytes ts)
streamed_is_the_listing ts f o = ap (λ (ls : List Line). Heading ∷ ls) (streamed_is_whole ts (begun_at fresh_words) fresh_words [] f o)

-- ---- the theorem: a night that the gate lets pass is such a night after every run, so that no turn behind it is
-- refused
pub run_keeps : (most : ℕ) (last : Bool) (bytes : List ℕ) (n : Night) (memory : Memory) → gate_of n.v830 memory ≡ Ok 0
    → gate_of (run_of most last bytes n memory).night.v830 (run_of most last bytes n memory).memory ≡ Ok 0
run_keeps most last bytes n memory e =
    let r : Run = run_of most last bytes n memory in
    sound_gate r.night r.memory (run_sound most last bytes n memory (gate_sound n memory (ap is_done e)))
