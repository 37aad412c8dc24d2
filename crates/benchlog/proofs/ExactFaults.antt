-- Each fault of an argument and of an entry, 30 to 34, is given exactly when its line of document 01's table holds,
-- "left to right, the first fault found", and there is exactly one: both ways, one `then` after the other. Assumes
-- nothing.
use Prim.Native.Nat.{ℕ, zero, suc, ◌-◌, ◌^◌, ◌≤◌, ◌<◌}
use mathlib.Core.Path.{◌≡◌, refl, sym, ap, subst, ◌∙◌}
use mathlib.Core.Bool.{Bool, true, false, cond, ◌||◌, true≢false}
use mathlib.Core.List.{List}
use Rattle.std.specs.Prelude.{Result, Ok, Err}
use mathlib.Core.Logic.{◌↔◌}
use native.Mathlib.Omega.{arith}
use borrow.Author.Tests.{leb-true, leb-false, eqb-true, lt-ltb, le-ltb, lt-leb, ne_eqb}
use lib.Dec.{eqb, ltb, leb}
use Rattle.benchlog.specs.declared.Entry.{Entry}
use Rattle.benchlog.specs.declared.Entry.TheVariants.{Pulse, Veto, Test, Clear, Trigger, Read, Write, ManClr}
use Rattle.benchlog.specs.declared.Fault.{Fault}
use Rattle.benchlog.specs.declared.Fault.TheVariants.{NoSuchKind, OutOfRange}
use Rattle.benchlog.specs.declared.Numeral.{Numeral}
use Rattle.benchlog.specs.declared.Reading.{Reading}
use Rattle.benchlog.specs.declared.Refused.{Refused}
use Rattle.benchlog.specs.Entries.{within, argument_at, width_at, data_limit, read_to, then, pulse_at, veto_at, read_at, write_at, kind_at, of_entry, by_kind, entry_at}
use Rattle.benchlog.specs.Lines.{Arguments, nothing_more, argument, arguments_of, ArgumentFault, in_number, outside, further, EntryFault, in_kind, no_such_kind, in_arguments}
use Rattle.benchlog.specs.Number.{numeral, refused, number_at}
use Rattle.benchlog.proofs.ExactNumerals.{same_fault, same_value, same_next, number_at_fault, refused_number, read_not_refused}
use Rattle.benchlog.proofs.Places.{NumeralPlace, number_place, argument_place}

entry_not_refused : {E : Type 0} {x : Result Reading E} {fault : E} {r : Reading} → x ≡ Err fault → x ≡ Ok r → ⊥
entry_not_refused p q = let z : ◌≡◌ {A = ℕ} 0 1 = cc in omega arith

-- ---- the arguments of an entry
-- this reading has its line where it is at fault, and is at fault where there is a line
record Both (Line : Fault → Type 0) (r : Result Reading Fault) : Type 0 where
  refuses : (fault : Fault) → r ≡ Err fault → Line fault
  refused : (fault : Fault) → Line fault → r ≡ Err fault

-- of what is not nothing
Some : Arguments → Type 0
Some nothing_more = ⊥
Some (argument in_range after) = Unit {0}

some_argument : {log : List ℕ} {at : ℕ} {left : Arguments} {fault : Fault} → ArgumentFault log at left fault → Some left
unfolding Some
some_argument (in_number f) = tt
some_argument (outside e r) = tt
some_argument (further e r f) = tt

module _ (log : List ℕ) where
  entry_read : (at : ℕ) (e : Entry) (next : ℕ) → Both (ArgumentFault log at nothing_more) (read_to e next)
  unfolding Some
  entry_read at e next =
      record {
        refuses = λ fault q. absurd (let z : ◌≡◌ {A = ℕ} 0 1 = cc in omega arith);
        refused = λ fault l. absurd (some_argument l);
      }

  -- an argument: its number at fault, outside its range, or what follows it
  module _ (at : ℕ) (in_range : ℕ → Bool) (after : ℕ → Arguments) (rest : ℕ → ℕ → Result Reading Fault) where
    abbrev Here : Fault → Type 0
    Here = ArgumentFault log at (argument in_range after)

    number_refused : (fault : Fault) (place : ℕ) → number_at log at ≡ refused fault place → Both Here (Err fault)
    number_refused fault place e =
        record {
          refuses = λ f q. let s : fault ≡ f = cc in rw (← s) (in_number (refused_number log at e));
          refused = λ f l. go f l;
        }
      where
        go : (f : Fault) → Here f → ◌≡◌ {A = Result Reading Fault} (Err fault) (Err f)
        go f (in_number l) = let q : fault ≡ f = same_fault e (number_at_fault log at l) in cc
        go f (outside q r) = absurd (read_not_refused e q)
        go f (further q r l) = absurd (read_not_refused e q)

    module _ (v next : ℕ) (e : number_at log at ≡ numeral v next) where
      out_of_range : in_range v ≡ false → Both Here (Err OutOfRange)
      out_of_range r =
          record {
            refuses = λ f q. let s : OutOfRange ≡ f = cc in rw (← s) (outside e r);
            refused = λ f l. go f l;
          }
        where
          go : (f : Fault) → Here f → ◌≡◌ {A = Result Reading Fault} (Err OutOfRange) (Err f)
          go f (in_number l) = absurd (read_not_refused (number_at_fault log at l) e)
          go f (outside q s) = refl
          go f (further {v = w} q s l) = let u : w ≡ v = same_value q e in absurd (let z : ◌≡◌ {A = Bool} true false = cc in true≢false z)

      goes_on_lem : in_range v ≡ true → Both (ArgumentFault log next (after v)) (rest v next) → Both Here (rest v next)
      goes_on_lem r b =
          record {
            refuses = λ f q. further e r (b.refuses f q);
            refused = λ f l. go f l;
          }
        where
          go : (f : Fault) → Here f → rest v next ≡ Err f
          go f (in_number l) = absurd (read_not_refused (number_at_fault log at l) e)
          go f (outside {v = w} q s) = let u : w ≡ v = same_value q e in absurd (let z : ◌≡◌ {A = Bool} true false = cc in true≢false z)
          go f (further {v = w} {next = n} q s l) = let u : w ≡ v = same_value q e in let t : n ≡ next = same_next q e in b.refused f (rw (u, t) at l)

    -- by the definition's own test
    then_both : (tests : ℕ → Bool) → ((v : ℕ) → in_range v ≡ tests v) → ((v next : ℕ) → in_range v ≡ true → Both (ArgumentFault log next (after v)) (rest v next))
        → Both Here (then (within at tests (number_at log at)) rest)
    then_both tests same f = go (number_at log at) refl
      where
        ranged : (v next : ℕ) → number_at log at ≡ numeral v next → (t : Bool) → in_range v ≡ t
            → Both Here (then (cond t (numeral v next) (refused OutOfRange at)) rest)
        ranged v next e true r = goes_on_lem v next e r (f v next r)
        ranged v next e false r = out_of_range v next e r

        go : (n : Result Numeral Refused) → number_at log at ≡ n → Both Here (then (within at tests n) rest)
        go (Err r) e = number_refused r.fault r.place e
        go (Ok n) e = ranged n.value n.next e (tests n.value) (same n.value)

-- ---- ranges as the paper says them and as the definitions test them
below : (v n : ℕ) → ltb v (suc n) ≡ leb v n
below v n = go (leb v n) refl
  where
    go : (t : Bool) → leb v n ≡ t → ltb v (suc n) ≡ t
    go true e = lt-ltb v (suc n) (omega (arith, leb-true v n e))
    go false e = le-ltb v (suc n) (omega (arith, leb-false v n e))

zero_or_one : (v : ℕ) → (eqb v 0 || eqb v 1) ≡ leb v 1
zero_or_one zero = refl
zero_or_one (suc zero) = refl
zero_or_one (suc (suc v)) = rw (ne_eqb (suc (suc v)) 0 (λ e. omega arith), ne_eqb (suc (suc v)) 1 (λ e. omega arith), lt-leb (suc (suc v)) 1 (omega arith))

fits : (width d : ℕ) → (eqb width 16 || eqb width 32) ≡ true → ltb d (2 ^ width) ≡ leb d (data_limit width)
fits width d r = go (eqb width 16) refl r
  where
    go : (t : Bool) → eqb width 16 ≡ t → (t || eqb width 32) ≡ true → ltb d (2 ^ width) ≡ leb d (cond t (2 ^ 16 - 1) (2 ^ 32 - 1))
    go true e s = rw (eqb-true width 16 e) (below d 65535)
    go false e s = rw (eqb-true width 32 s) (below d 4294967295)

within_any : (at : ℕ) (n : Result Numeral Refused) → within at (λ v. true) n ≡ n
within_any at (Err r) = refl
within_any at (Ok n) = refl

-- ---- the arguments of each kind
module _ (log : List ℕ) (at : ℕ) where
  pulse_both : Both (ArgumentFault log at (arguments_of 0)) (pulse_at log at)
  unfolding pulse_at argument_at arguments_of
  pulse_both =
      then_both log at _ _ _ (λ v. leb v 31) (λ v. refl)
      (λ channel q r. subst (λ (n : Result Numeral Refused). Both (ArgumentFault log q (argument (λ v. true) (λ v. nothing_more))) (then n (λ n next. read_to (Pulse channel n) next)))
      (within_any q (number_at log q))
      (then_both log q _ _ _ (λ v. true) (λ v. refl) (λ n next s. entry_read log next (Pulse channel n) next)))

  veto_both : Both (ArgumentFault log at (arguments_of 1)) (veto_at log at)
  unfolding veto_at argument_at arguments_of
  veto_both = then_both log at _ _ _ (λ v. leb v 1) zero_or_one (λ line next r. entry_read log next (Veto (eqb line 1)) next)

  read_both : Both (ArgumentFault log at (arguments_of 5)) (read_at log at)
  unfolding read_at argument_at width_at arguments_of
  read_both =
      then_both log at _ _ _ (λ v. leb v 65535) (λ v. below v 65535)
      (λ offset q r. then_both log q _ _ _ (λ v. eqb v 16 || eqb v 32) (λ v. refl) (λ width next s. entry_read log next (Read offset width) next))

  write_both : Both (ArgumentFault log at (arguments_of 6)) (write_at log at)
  unfolding write_at argument_at width_at arguments_of
  write_both =
      then_both log at _ _ _ (λ v. leb v 65535) (λ v. below v 65535)
      (λ offset q r. then_both log q _ _ _ (λ v. eqb v 16 || eqb v 32) (λ v. refl)
      (λ width p s. then_both log p _ _ _ (λ v. leb v (data_limit width)) (λ d. fits width d s) (λ d next u. entry_read log next (Write offset width d) next)))

  kind_both : (kind : ℕ) → kind ≤ 7 → Both (ArgumentFault log at (arguments_of kind)) (kind_at log kind at)
  unfolding kind_at arguments_of
  kind_both zero h = pulse_both
  kind_both (suc zero) h = veto_both
  kind_both (suc (suc zero)) h = entry_read log at Test at
  kind_both (suc (suc (suc zero))) h = entry_read log at Clear at
  kind_both (suc (suc (suc (suc zero)))) h = entry_read log at Trigger at
  kind_both (suc (suc (suc (suc (suc zero))))) h = read_both
  kind_both (suc (suc (suc (suc (suc (suc zero)))))) h = write_both
  kind_both (suc (suc (suc (suc (suc (suc (suc zero))))))) h = entry_read log at ManClr at
  kind_both (suc (suc (suc (suc (suc (suc (suc (suc kind)))))))) h = absurd (omega arith)

  no_kind : (kind : ℕ) → 7 < kind → kind_at log kind at ≡ Err NoSuchKind
  unfolding kind_at
  no_kind kind h =
      rw (
        ne_eqb kind 0 (λ e. omega arith),
        ne_eqb kind 1 (λ e. omega arith),
        ne_eqb kind 2 (λ e. omega arith),
        ne_eqb kind 3 (λ e. omega arith),
        ne_eqb kind 4 (λ e. omega arith),
        ne_eqb kind 5 (λ e. omega arith),
        ne_eqb kind 6 (λ e. omega arith),
        ne_eqb kind 7 (λ e. omega arith),
      )

-- ---- an argument by itself, of 0 to `most`
module _ (log : List ℕ) (at most : ℕ) where
  -- read as if it were an entry's only one
  alone_both : Both (ArgumentFault log at (argument (λ v. leb v most) (λ v. nothing_more))) (then (argument_at log at most) (λ v next. read_to Test next))
  unfolding argument_at
  alone_both = then_both log at _ _ _ (λ v. leb v most) (λ v. refl) (λ v next r. entry_read log next Test next)

  pub argument_fault_is : (fault : Fault) → argument_at log at most ≡ refused fault at ↔ ArgumentFault log at (argument (λ v. leb v most) (λ v. nothing_more)) fault
  argument_fault_is fault =
      ((λ e. alone_both.refuses fault (rw e)), λ l. go (argument_at log at most) (argument_place log at most) (alone_both.refused fault l))
    where
      go : (n : Result Numeral Refused) → NumeralPlace log at n → then n (λ v next. read_to Test next) ≡ Err fault → n ≡ refused fault at
      go (Ok n) p e = absurd (entry_not_refused e refl)
      go (Err r) p e = let f : r.fault ≡ fault = cc in rw (← f, ← p)

-- ---- an entry
module _ (log : List ℕ) (at : ℕ) where
  kind_refused : (fault : Fault) (place : ℕ) → number_at log at ≡ refused fault place → Both (EntryFault log at) (Err fault)
  kind_refused fault place e =
      record {
        refuses = λ f q. let s : fault ≡ f = cc in rw (← s) (in_kind (refused_number log at e));
        refused = λ f l. go f l;
      }
    where
      go : (f : Fault) → EntryFault log at f → ◌≡◌ {A = Result Reading Fault} (Err fault) (Err f)
      go f (in_kind l) = let q : fault ≡ f = same_fault e (number_at_fault log at l) in cc
      go f (no_such_kind q h) = absurd (read_not_refused e q)
      go f (in_arguments q h l) = absurd (read_not_refused e q)

  module _ (kind next : ℕ) (e : number_at log at ≡ numeral kind next) where
    kind_none : 7 < kind → Both (EntryFault log at) (kind_at log kind next)
    kind_none h =
        record {
          refuses = λ f q. let n = no_kind log next kind h in let s : NoSuchKind ≡ f = cc in rw (← s) (no_such_kind e h);
          refused = λ f l. no_kind log next kind h ∙ go f l;
        }
      where
        go : (f : Fault) → EntryFault log at f → ◌≡◌ {A = Result Reading Fault} (Err NoSuchKind) (Err f)
        go f (in_kind l) = absurd (read_not_refused (number_at_fault log at l) e)
        go f (no_such_kind q i) = refl
        go f (in_arguments {kind = k} q i l) = let s : k ≡ kind = same_value q e in absurd (omega arith)

    kind_some : kind ≤ 7 → Both (EntryFault log at) (kind_at log kind next)
    kind_some h =
        record {
          refuses = λ f q. in_arguments e h ((kind_both log next kind h).refuses f q);
          refused = λ f l. go f l;
        }
      where
        go : (f : Fault) → EntryFault log at f → kind_at log kind next ≡ Err f
        go f (in_kind l) = absurd (read_not_refused (number_at_fault log at l) e)
        go f (no_such_kind {kind = k} q i) = let s : k ≡ kind = same_value q e in absurd (omega arith)
        go f (in_arguments {kind = k} {next = n} q i l) = let s : k ≡ kind = same_value q e in let t : n ≡ next = same_next q e in (kind_both log next kind h).refused f (rw (s, t) at l)

  -- the kind, and what follows it
  abbrev inside : Result Reading Fault
  inside = then (number_at log at) (λ kind p. kind_at log kind p)

  inside_both : Both (EntryFault log at) inside
  inside_both = go (number_at log at) refl
    where
      of : (kind next : ℕ) → number_at log at ≡ numeral kind next → (t : Bool) → leb kind 7 ≡ t → Both (EntryFault log at) (kind_at log kind next)
      of kind next e true h = kind_some kind next e (leb-true kind 7 h)
      of kind next e false h = kind_none kind next e (leb-false kind 7 h)

      go : (n : Result Numeral Refused) → number_at log at ≡ n → Both (EntryFault log at) (then n (λ kind p. kind_at log kind p))
      go (Err r) e = kind_refused r.fault r.place e
      go (Ok n) e = of n.value n.next e (leb n.value 7) refl

  -- the entry is what is inside it, at the place that was given
  entry_is : entry_at log at ≡ of_entry at inside
  unfolding entry_at
  entry_is = go (number_at log at) (number_place log at)
    where
      go : (n : Result Numeral Refused) → NumeralPlace log at n → by_kind log at n ≡ of_entry at (then n (λ kind p. kind_at log kind p))
      go (Err r) p = rw (← p) refl
      go (Ok n) p = refl

  -- a fault of it is one inside it
  fault_inside : (fault : Fault) → entry_at log at ≡ refused fault at ↔ inside ≡ Err fault
  fault_inside fault = ((λ e. go inside (sym entry_is ∙ e)), λ e. entry_is ∙ ap (of_entry at) e)
    where
      go : (r : Result Reading Fault) → of_entry at r ≡ refused fault at → r ≡ Err fault
      go (Ok r) e = absurd (entry_not_refused e refl)
      go (Err f) e = let d : f ≡ fault = same_fault refl e in cc

  -- ---- the theorems
  pub entry_fault_is : (fault : Fault) → entry_at log at ≡ refused fault at ↔ EntryFault log at fault
  entry_fault_is fault = ((λ e. inside_both.refuses fault ((fault_inside fault).0 e)), λ l. (fault_inside fault).1 (inside_both.refused fault l))

  pub one_fault : (f g : Fault) → EntryFault log at f → EntryFault log at g → f ≡ g
  one_fault f g l m = let p = inside_both.refused f l in let q = inside_both.refused g m in cc

  -- an entry is read exactly when there is no fault
  pub entry_read_is : ((fault : Fault) → EntryFault log at fault → ⊥) ↔ ((r : Reading) × (entry_at log at ≡ Ok r))
  entry_read_is = ((λ none. go inside refl none), λ r f l. absurd (entry_not_refused ((entry_fault_is f).1 l) r.1))
    where
      go : (x : Result Reading Fault) → inside ≡ x → ((fault : Fault) → EntryFault log at fault → ⊥) → (r : Reading) × (entry_at log at ≡ Ok r)
      go (Ok r) q none = (r, entry_is ∙ ap (of_entry at) q)
      go (Err fault) q none = absurd (none fault (inside_both.refuses fault q))
