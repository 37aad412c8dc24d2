-- Each fault of a number, 30, 31 and 32, is given exactly when its line of document 01's table holds: both ways,
-- carried by the tests of the definitions. Assumes nothing.
use Prim.Native.Nat.{ℕ, zero, suc, ◌+◌, ◌-◌, ◌*◌, ◌^◌, ◌≤◌, ◌<◌}
use mathlib.Core.Path.{◌≡◌, refl, sym, ap, ◌∙◌}
use mathlib.Core.Bool.{Bool, true, false, cond}
use mathlib.Core.List.{List}
use Rattle.std.specs.Prelude.{Result, Ok, Err}
use mathlib.Core.Logic.{◌↔◌}
use native.Mathlib.Nat.{add-zero}
use native.Mathlib.Omega.{arith}
use borrow.Author.Tests.{ltb-true, ltb-false, eqb-true, lt-ltb, le-ltb}
use lib.Dec.{eqb, ltb}
use lib.ListN.{length, get_or}
use Rattle.benchlog.specs.declared.Fault.{Fault}
use Rattle.benchlog.specs.declared.Fault.TheVariants.{Ends, NotShortest, TooLarge}
use Rattle.benchlog.specs.declared.Numeral.{Numeral}
use Rattle.benchlog.specs.declared.Refused.{Refused}
use Rattle.benchlog.specs.Lines.{MoreFollow, NumberFault, ends, not_shortest, too_large}
use Rattle.benchlog.specs.Number.{numeral, refused, group, groups, number_at}
use Rattle.benchlog.proofs.Groups.{above, not_shortest_lem}
use Rattle.benchlog.proofs.Groups as byte

-- what holds of what a test picks, by what the test says
tested : {A : Type 0} (P : A → Type 0) (b : Bool) {yes no : A} → (b ≡ true → P yes) → (b ≡ false → P no) → P (cond b yes no)
tested P true p q = p refl
tested P false p q = q refl

-- a number is not refused and read
pub read_not_refused : {n : Result Numeral Refused} {fault : Fault} {place v next : ℕ} → n ≡ refused fault place → n ≡ numeral v next → ⊥
read_not_refused p q = let z : ◌≡◌ {A = ℕ} 0 1 = cc in omega arith

-- nor is it refused twice, or read twice, otherwise
pub same_fault : {A : Type 0} {x : Result A Refused} {f g : Fault} {p q : ℕ} → x ≡ refused f p → x ≡ refused g q → f ≡ g
same_fault {f = f} {g = g} {p = p} {q = q} d e = let r : ◌≡◌ {A = Refused} (record { fault = f; place = p }) (record { fault = g; place = q }) = cc in ap (λ (t : Refused). t.fault) r

same_numeral : {n : Result Numeral Refused} {v w p q : ℕ} → n ≡ numeral v p → n ≡ numeral w q → ◌≡◌ {A = Numeral} (record { value = v; next = p }) (record { value = w; next = q })
same_numeral d e = cc

pub same_value : {n : Result Numeral Refused} {v w p q : ℕ} → n ≡ numeral v p → n ≡ numeral w q → v ≡ w
same_value d e = ap (λ (m : Numeral). m.value) (same_numeral d e)

pub same_next : {n : Result Numeral Refused} {v w p q : ℕ} → n ≡ numeral v p → n ≡ numeral w q → p ≡ q
same_next d e = ap (λ (m : Numeral). m.next) (same_numeral d e)

module _ (log : List ℕ) (at : ℕ) where
  -- one byte more that says so
  follow : (g : ℕ) → MoreFollow log at g → at + g < length log → 0x7F < get_or log (at + g) 0 → MoreFollow log at (suc g)
  follow g m h b i l = go (ltb i g) refl
    where
      go : (t : Bool) → ltb i g ≡ t → (at + i < length log) × (0x7F < get_or log (at + i) 0)
      go true e = m i (ltb-true i g e)
      go false e = let s : g ≡ i = omega (arith, ltb-false i g e) in rw (← s) (h, b)

  -- a refusal has its line
  abbrev Refuses : Result Numeral Refused → Type 0
  Refuses (Ok n) = Unit {0}
  Refuses (Err r) = NumberFault log at r.fault

  group_refuses : (g sum limit : ℕ) (over : Result Numeral Refused) → 1 ≤ g → g ≤ 4 → MoreFollow log at g
      → (at + g < length log → limit < get_or log (at + g) 0 → Refuses over) → Refuses (group log at g sum limit over)
  unfolding group
  group_refuses g sum limit over o l m p =
      tested Refuses (ltb (at + g) (length log))
      (λ e. tested Refuses (ltb limit (get_or log (at + g) 0)) (λ h. p (ltb-true _ _ e) (ltb-true _ _ h))
      (λ h. tested Refuses (eqb (get_or log (at + g) 0) 0) (λ z. not_shortest g o l m (ltb-true _ _ e) (eqb-true _ _ z)) (λ z. tt)))
      (λ e. ends g l m (ltb-false _ _ e))

  groups_refuse : (more g sum : ℕ) → 1 ≤ g → g + more ≡ 4 → MoreFollow log at g → Refuses (groups more log at g sum)
  unfolding groups
  groups_refuse zero g sum o s m =
      group_refuses g sum _ _ o (omega arith) m
      (λ h b. let f : g ≡ 4 = omega arith in too_large (rw f at m) (rw f at h) (rw f at b))
  groups_refuse (suc more) g sum o s m =
      group_refuses g sum _ _ o (omega arith) m (λ h b. groups_refuse more (suc g) _ (omega arith) (omega arith) (follow g m h b))

  number_refuses : Refuses (number_at log at)
  unfolding number_at
  number_refuses =
      tested Refuses (ltb at (length log))
      (λ e. tested Refuses (ltb 0x7F (get_or log at 0))
      (λ b. groups_refuse 3 1 _ (omega arith) refl (follow 0 (λ i l. absurd (omega arith)) (rw add-zero (ltb-true _ _ e)) (rw add-zero (ltb-true _ _ b))))
      (λ b. tt))
      (λ e. ends 0 (omega arith) (λ i l. absurd (omega arith)) (rw add-zero (ltb-false _ _ e)))

  -- behind g groups of which each says that more follows, the number is what the groups left give
  record Reached (more g : ℕ) : Type 0 where
    sum : ℕ
    same : groups more log at g sum ≡ number_at log at

  reached : (d more : ℕ) → d + more ≡ 3 → MoreFollow log at (suc d) → Reached more (suc d)
  unfolding number_at groups
  reached zero more s m =
      let b = m 0 (omega arith) in
      let e : more ≡ 3 = omega arith in
      record {
        sum = get_or log at 0 - 0x80;
        same = rw (e, lt-ltb at (length log) (rw add-zero at b.0), lt-ltb 0x7F (get_or log at 0) (rw add-zero at b.1));
      }
  reached (suc d) more s m =
      let r = reached d (suc more) (omega arith) (λ i l. m i (omega arith)) in
      let b = m (suc d) (omega arith) in
      record {
        sum = r.sum + (get_or log (at + suc d) 0 - 0x80) * 128 ^ suc d;
        same = above log at (suc d) r.sum 0x7F _ b.0 _ refl b.1 ∙ r.same;
      }

  groups_end : (more g sum : ℕ) → length log ≤ at + g → groups more log at g sum ≡ refused Ends at
  unfolding groups
  groups_end zero g sum h = sym (byte.ends log at g sum _ _ h)
  groups_end (suc more) g sum h = sym (byte.ends log at g sum _ _ h)

  groups_zero : (more g sum : ℕ) → at + g < length log → get_or log (at + g) 0 ≡ 0 → groups more log at g sum ≡ refused NotShortest at
  unfolding groups
  groups_zero zero g sum h z = sym (not_shortest_lem log at g sum 0x0F _ h (get_or log (at + g) 0) refl (omega arith) z)
  groups_zero (suc more) g sum h z = sym (not_shortest_lem log at g sum 0x7F _ h (get_or log (at + g) 0) refl (omega arith) z)

  groups_large : (g sum : ℕ) → at + g < length log → 0x0F < get_or log (at + g) 0 → groups 0 log at g sum ≡ refused TooLarge at
  unfolding groups
  groups_large g sum h b = sym (above log at g sum 0x0F _ h (get_or log (at + g) 0) refl b)

  -- a line has its refusal
  pub number_at_fault : {fault : Fault} → NumberFault log at fault → number_at log at ≡ refused fault at
  unfolding number_at
  number_at_fault (ends zero l m h) = rw (le-ltb at (length log) (rw add-zero at h))
  number_at_fault (ends (suc d) l m h) = let r = reached d (3 - d) (omega arith) m in sym r.same ∙ groups_end (3 - d) (suc d) r.sum h
  number_at_fault (not_shortest zero o l m h z) = absurd (omega arith)
  number_at_fault (not_shortest (suc d) o l m h z) = let r = reached d (3 - d) (omega arith) m in sym r.same ∙ groups_zero (3 - d) (suc d) r.sum h z
  number_at_fault (too_large m h b) = let r = reached 3 0 refl m in sym r.same ∙ groups_large 4 r.sum h b

  -- what a refusal of the number says
  pub refused_number : {fault : Fault} {place : ℕ} → number_at log at ≡ refused fault place → NumberFault log at fault
  refused_number e = rw e at number_refuses

  -- ---- the theorems
  pub number_fault_is : (fault : Fault) → number_at log at ≡ refused fault at ↔ NumberFault log at fault
  number_fault_is fault = ((λ e. refused_number e), λ l. number_at_fault l)

  -- a number is read exactly when there is no fault
  pub number_read_is : ((fault : Fault) → NumberFault log at fault → ⊥) ↔ ((n : Numeral) × (number_at log at ≡ Ok n))
  number_read_is = ((λ none. go (number_at log at) refl none), λ r f l. read_not_refused (number_at_fault l) r.1)
    where
      go : (x : Result Numeral Refused) → number_at log at ≡ x → ((fault : Fault) → NumberFault log at fault → ⊥) → (n : Numeral) × (number_at log at ≡ Ok n)
      go (Ok n) e none = (n, e)
      go (Err r) e none = absurd (none r.fault (refused_number e))
