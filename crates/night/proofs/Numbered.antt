-- The lines of a listing are numbered from 1, each by one more than the line before it, in 64 bits; a fault's line is
-- the last one. Carried by the number of entries that a night has taken. Assumes nothing.
use Rattle.std.proofs.Common.{◌≡◌, ℕ, zero, suc, ◌%◌, ◌^◌, Bool, true, not, ◌&&◌, eqb, List, length, drop, refl, arith}
use Rattle.benchlog.specs.declared.Fault.TheVariants.{Ends}
use Rattle.benchlog.specs.declared.Reading.{Reading}
use Rattle.benchlog.specs.declared.Refused as refusal
use Rattle.std.specs.Prelude.{Result, Ok, Err}
use Rattle.benchlog.specs.Entries.{entry_at}
use Rattle.benchlog.specs.Faults.{fault_number}
use Rattle.benchlog.proofs.Places.{picked}
use Rattle.meb.specs.Ring.{Memory}
use Rattle.night.specs.declared.Night.{Night}
use Rattle.night.specs.Lines.{begun_at, onward, stepped, NumberedFrom, Numbered}
use Rattle.night.specs.Runs.{Run, on_reading, run_of, fresh_words, listing}

-- one entry, where the lines behind it are numbered, or none
reading_numbered : (k : ℕ) (last : Bool) (bytes : List ℕ) (n : Night) (memory : Memory) → n.entries ≡ k % 2 ^ 64 → (f : Night → Memory → List ℕ → Run)
    → ((n₁ : Night) (m₁ : Memory) (b : List ℕ) → n₁.entries ≡ suc k % 2 ^ 64 → NumberedFrom (suc k) (f n₁ m₁ b).lines)
    → (x : Result Reading refusal.Refused) → NumberedFrom k (on_reading last bytes n memory x f).lines
reading_numbered k last bytes n memory e f go (Ok q) =
    (omega arith, go (onward n memory q.entry q.next) (stepped n memory q.entry).memory (drop q.next bytes) (omega arith))
reading_numbered k last bytes n memory e f go (Err q) =
    let P : Run → Type 0 = λ r. NumberedFrom k r.lines in
    picked P (not last && eqb (fault_number q.fault) (fault_number Ends)) (λ t. tt) (picked P (eqb (length bytes) 0) (λ t. tt) refl)

-- every run of a night that has taken k entries
pub run_numbered : (most : ℕ) (last : Bool) (bytes : List ℕ) (n : Night) (memory : Memory) (k : ℕ) → n.entries ≡ k % 2 ^ 64
    → NumberedFrom k (run_of most last bytes n memory).lines
unfolding run_of
run_numbered zero last bytes n memory k e = tt
run_numbered (suc most) last bytes n memory k e =
    reading_numbered k last bytes n memory e (λ n₁ m₁ b. run_of most last b n₁ m₁) (λ n₁ m₁ b d. run_numbered most last b n₁ m₁ (suc k) d) (entry_at bytes 0)

-- ---- the theorem
pub listing_numbered : (log : List ℕ) → Numbered (listing log)
listing_numbered log = run_numbered (suc (length log)) true log (begun_at fresh_words) fresh_words 0 refl
