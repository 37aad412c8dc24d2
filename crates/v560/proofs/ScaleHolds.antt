-- T4 for the V560 (document 01, "Counting"): "joined section n is a 64-bit scale, channel 2n+1 low, channel 2n high,
-- clocked by input 2n+1". From zero and with no clear since, it holds the pulses admitted to input 2n+1 modulo 2^64;
-- a channel whose section is not joined holds those admitted to its own input modulo 2^32. Over every list of calls,
-- stated of the definitions that the contracts are equations with. Assumes nothing.
use Prim.Native.Nat.{ℕ, ◌+◌, ◌*◌, ◌%◌, ◌^◌, ◌<◌}
use mathlib.Core.Path.{◌≡◌, sym, ◌∙◌}
use mathlib.Core.Bool.{true, false}
use mathlib.Core.List.{List, [], ◌∷◌}
use native.Mathlib.Nat.{add-zero}
use lib.Dec.{eqb}
use lib.ListN.{length, get_or, replicate}
use Rattle.count.specs.Counter.{bit}
use Rattle.count.specs.Chain.{chain_value}
use Rattle.bus.specs.declared.interrupter.Interrupter.{Interrupter}
use Rattle.scaler.specs.declared.Call.{Call}
use Rattle.scaler.specs.Admitted.{no_clear, admitted_to}
use Rattle.scaler.specs.Held.{counts_of, held}
use Rattle.scaler.proofs.Fair.{scale_holds}
use Rattle.v560.specs.declared.V560.{V560}
use Rattle.scaler.specs.Outcomes.{done}
use Rattle.v560.specs.Counting.{is_joined, section}
use Rattle.v560.specs.Registers.{registers}
use Rattle.scaler.specs.Calls.{called_of}
use Rattle.v560.specs.Module.{v560}
use Rattle.v560.proofs.Stepping.{inside, Fit, scale, own}
use Rattle.v560.proofs.Single as single

-- T4: section n joined, both its counts zero, and any calls of which none clears
pub v560_section_holds : (n : ℕ) (calls : List Call) (s : V560) (i : Interrupter)
    → n < 8
    → eqb (bit s.joined n) 1 ≡ true
    → length s.scales.counts ≡ 16
    → counts_of (section n) s.scales.counts ≡ replicate 2 0
    → no_clear registers calls ≡ true
    → held 32 (section n) (called_of v560 calls (done 0 s i)).state.scales.counts ≡ admitted_to v560 (2 * n + 1) calls (done 0 s i) % 2 ^ 64
v560_section_holds n calls s i h j l z e =
    scale_holds inside 32 (section n) (2 * n + 1) (Fit n) (own n) (scale n) calls (done 0 s i) (record { among_eight = h; joined = j; size = l }) z e

-- T4: "A counter of w bits counts modulo 2^w": the section of channel k not joined, its count zero, and any calls of
-- which none clears
pub v560_channel_holds : (k : ℕ) (calls : List Call) (s : V560) (i : Interrupter)
    → k < 16
    → is_joined s.joined k ≡ false
    → length s.scales.counts ≡ 16
    → get_or s.scales.counts k 0 ≡ 0
    → no_clear registers calls ≡ true
    → get_or (called_of v560 calls (done 0 s i)).state.scales.counts k 0 ≡ admitted_to v560 k calls (done 0 s i) % 2 ^ 32
unfolding chain_value
v560_channel_holds k calls s i h j l z e =
    let n = get_or (called_of v560 calls (done 0 s i)).state.scales.counts k 0 in
    let one : held 32 (k ∷ []) (called_of v560 calls (done 0 s i)).state.scales.counts ≡ n = add-zero n in
    sym one ∙ scale_holds inside 32 (k ∷ []) k (single.Fit k) (single.own k) (single.scale k) calls (done 0 s i) (record { among_sixteen = h; single = j; size = l }) (rw z) e
