-- Every contract keeps what the dispatcher is promised.
use Rattle.std.proofs.Common.{◌≡◌, ℕ, zero, suc, ◌-◌, ◌≤◌, ◌↔◌, List, [], ◌∷◌, ◌++◌, reverse, length, take, replicate, Some, None, Option, sym, refl, ap, ◌∙◌, subst, arith}
use Rattle.std.proofs.lemmas.List.{length-replicate, take_all, take-take}
use Rattle.contract.specs.declared.faults.Code.{Code}
use Rattle.contract.specs.Meaning.{Meaning, New, memory, lowest, granted}
use Rattle.contract.specs.Faults.{Refused, grant_refusal, unless_refused}
use Rattle.contract.proofs.Admitted.{admitted, admitted_cap, admitted_lowest}
use Rattle.curve.specs.Lawful.{Lawful}
use Rattle.curve.specs.Reached.{Standing, standing, Call, granting, looking, after, Reached, at_first, then_call}
use Rattle.curve.specs.Promise.{Told, Dispatch, DispatchPromise, Asked}
use Rattle.curve.proofs.Curves.{curve_is}
use Rattle.curve.proofs.Kept.{Stands, stands_new, stands_granted, lowest_le, kept_curve, curve_kept}
use Rattle.curve.proofs.Places.{Stepwise, steps_lawful, lawful_steps, steps_past, steps_same}

-- a refusal is never the answer of a call that was not refused
refused_not : (o : Option Code) → Refused o → o ≡ None → ⊥
refused_not None r e = r
refused_not (Some c) r e = cc

refused_else : (o : Option Code) → (o ≡ None → ⊥) → Refused o
refused_else None n = n refl
refused_else (Some c) n = tt

-- what holds of the old value, and of the new one where the call was not refused
either_way : {X : Type 0} (o : Option Code) (old new : X) (P : X → Type 0) → P old → (o ≡ None → P new) → P (unless_refused o old new)
either_way None old new P a b = b refl
either_way (Some c) old new P a b = a

-- the recall is the newest of the history, and the cap where it ends
abbrev Remembers : Meaning → List ℕ → Type 0
Remembers m past = m.recall ≡ take (memory m - 1) (past ++ replicate (memory m - 1) m.«cap»)

remembers_granted : (m : Meaning) (past : List ℕ) (y : ℕ) → Remembers m past → Remembers (granted m y) (y ∷ past)
remembers_granted m past y e = ap (λ (r : List ℕ). take (memory m - 1) (y ∷ r)) e ∙ forget (memory m - 1) (past ++ replicate (memory m - 1) m.«cap»)
  where
    forget : (n : ℕ) (xs : List ℕ) → take n (y ∷ take n xs) ≡ take n (y ∷ xs)
    forget zero xs = refl
    forget (suc n) xs = ap (λ (r : List ℕ). y ∷ r) (take-take n (suc n) xs (omega arith))

-- what holds of every contract that is reached
pub record Stays (first : Meaning) (s : Standing) : Type 0 where
  pub same_cap : s.meaning.«cap» ≡ first.«cap»
  pub same_needs : s.meaning.needs ≡ first.needs
  pub recalls : Remembers s.meaning s.history
  pub stands : Stands s.meaning s.history

module _ (first : Meaning) where
  call_keeps : (c : Call) (s : Standing) → Stays first s → Stays first (after c s)
  call_keeps (granting y) s st =
      either_way (grant_refusal s.meaning y) s (standing (granted s.meaning y) (y ∷ s.history)) (Stays first) st
      (λ e. record {
        same_cap = st.same_cap;
        same_needs = st.same_needs;
        recalls = remembers_granted s.meaning s.history y st.recalls;
        stands = stands_granted s.meaning s.history st.stands y (admitted_cap s.meaning y e) (admitted_lowest s.meaning y e);
      })
  call_keeps looking s st = st

  pub reached_stays : (s : Standing) → Reached first s → Stays first s
  reached_stays s (at_first new) = record { same_cap = refl; same_needs = refl; recalls = remembers_new; stands = stands_new first new }
    where
      remembers_new : Remembers first []
      remembers_new = new.unused ∙ sym (take_all (memory first - 1) (replicate (memory first - 1) first.«cap») (omega (arith, length-replicate (memory first - 1) first.«cap»)))
  reached_stays s (then_call {s = t} c r) = call_keeps c t (reached_stays t r)

  reached_new : (s : Standing) → Reached first s → New first
  reached_new s (at_first new) = new
  reached_new s (then_call {s = t} c r) = reached_new t r

module _ (m : Meaning) (past : List ℕ) (s : Stands m past) where
  -- a lawful list begins with a level that is not below the lowest
  first_enough : (y : ℕ) (ys : List ℕ) → Stepwise m past (y ∷ ys) → lowest m ≤ y
  first_enough y ys steps =
      let kept = curve_kept m s.some_need s.met y past steps.0 steps.1 s.kept in
      lowest_le m y (λ k l. omega (arith, kept.1 k, s.recalls k l))

-- a level that may be granted, and then whatever is lawful after it
pub level_then : (m : Meaning) (past : List ℕ) → Stands m past → (y : ℕ) → y ≤ m.«cap» → lowest m ≤ y →
    (ys : List ℕ) → (Stands (granted m y) (y ∷ past) → Stepwise (granted m y) (y ∷ past) ys) → Stepwise m past (y ∷ ys)
level_then m past s y high low ys rest =
    let t = stands_granted m past s y high low in
    (high, kept_curve m s.some_need s.met (y ∷ past) t.kept, steps_same (granted m y) m refl refl (y ∷ past) ys (rest t))

-- slots at the cap go on for as long as you like
caps_go_on : (n : ℕ) (m : Meaning) (past : List ℕ) → Stands m past → Stepwise m past (replicate n m.«cap»)
caps_go_on zero m past s = tt
caps_go_on (suc n) m past s =
    let top = m.«cap» in
    level_then m past s top (omega arith) (omega arith) (replicate n top) (caps_go_on n (granted m top) (top ∷ past))

-- a level that is not refused, and then the cap over and over
goes_on : (m : Meaning) (past : List ℕ) → Stands m past → (y : ℕ) → grant_refusal m y ≡ None → (n : ℕ) → Stepwise m past (y ∷ replicate n m.«cap»)
goes_on m past s y e n =
    level_then m past s y (admitted_cap m y e) (admitted_lowest m y e) (replicate n m.«cap») (caps_go_on n (granted m y) (y ∷ past))

module _ (first : Meaning) (s : Standing) (st : Stays first s) where
  -- lists that are lawful on the new contract are lawful by the present cap and needs, and the other way round
  pub here : (ys : List ℕ) → Lawful first s.history ys → Stepwise s.meaning s.history ys
  here ys lawful = steps_same first s.meaning (sym st.same_cap) (sym st.same_needs) s.history ys (lawful_steps first s.history ys lawful)

  pub there : (past ys : List ℕ) → Stepwise s.meaning past ys → Lawful first past ys
  there past ys steps = steps_lawful first past ys (steps_same s.meaning first st.same_cap st.same_needs past ys steps)

  begins : (y : ℕ) (ys : List ℕ) → Lawful first s.history (y ∷ ys) → grant_refusal s.meaning y ≡ None
  begins y ys lawful =
      let steps = here (y ∷ ys) lawful in
      admitted s.meaning y (first_enough s.meaning s.history st.stands y ys steps) steps.0

  extends : (y : ℕ) → grant_refusal s.meaning y ≡ None → (n : ℕ) → 1 ≤ n → (ys : List ℕ) × (length (y ∷ ys) ≡ n) × Lawful first s.history (y ∷ ys)
  extends y e zero h = absurd (omega arith)
  extends y e (suc n) h = (
    replicate n s.meaning.«cap»,
    ap suc (length-replicate n s.meaning.«cap»),
    there s.history (y ∷ replicate n s.meaning.«cap») (goes_on s.meaning s.history st.stands y e n),
  )

  allowed : (y : ℕ) → ((ys : List ℕ) × Lawful first s.history (y ∷ ys)) ↔ ((lowest s.meaning ≤ y) × (y ≤ first.«cap»))
  allowed y = (
    (λ l. let e = begins y l.0 l.1 in (admitted_lowest s.meaning y e, omega (arith, admitted_cap s.meaning y e, st.same_cap))),
    (λ h. let l = extends y (admitted s.meaning y h.0 (omega (arith, h.1, st.same_cap))) 1 (omega arith) in (l.0, l.2)),
  )

  -- the history, level by level from the first on
  history_steps : Stepwise s.meaning [] (reverse s.history)
  history_steps = steps_past s.meaning st.stands.some_need st.stands.met s.history [] st.stands.kept tt

  recalled : s.meaning.recall ≡ take (memory first - 1) (s.history ++ replicate (memory first - 1) first.«cap»)
  recalled =
      let by : List ℕ → ℕ → List ℕ = λ needs top. take (length needs - 1) (s.history ++ replicate (length needs - 1) top) in
      st.recalls ∙ ap (λ (needs : List ℕ). by needs s.meaning.«cap») st.same_needs ∙ ap (by first.needs) st.same_cap

  told : (y : ℕ) → Told first s.history y (grant_refusal s.meaning y)
  told y = record {
    turned_down_if = λ high. (
      (λ r ys lawful. refused_not (grant_refusal s.meaning y) r (begins y ys lawful)),
      (λ none. refused_else (grant_refusal s.meaning y) (λ e. let l = extends y e 1 (omega arith) in none l.0 l.2)),
    );
    granted_if = (extends y, (λ all. let l = all 1 (omega arith) in begins y l.0 l.2));
  }

  dispatched : New first → Dispatch first s
  dispatched new = record {
    curve_is = curve_is first new.limits.memory_least;
    same_cap = st.same_cap;
    same_needs = st.same_needs;
    history_lawful = there [] (reverse s.history) history_steps;
    recalls = recalled;
    allowed = allowed;
    told = told;
    cap_granted = admitted s.meaning first.«cap» (omega (arith, st.same_cap)) (omega (arith, st.same_cap));
  }

-- the history is lawful by the present cap and needs too
pub lawful_now : (first : Meaning) (s : Standing) → Reached first s → Lawful s.meaning [] (reverse s.history)
lawful_now first s r = steps_lawful s.meaning [] (reverse s.history) (history_steps first s (reached_stays first s r))

pub promise : DispatchPromise
promise first s r = dispatched first s (reached_stays first s r) (reached_new first s r)

-- one call, by what it answers and leaves
pub asked : (m n : Meaning) (y : ℕ) (answer : Option Code) → answer ≡ grant_refusal m y → n ≡ unless_refused answer m (granted m y) → Asked m n y answer
asked m n y answer e left = record {
  told = λ first past r. subst (Told first past y) (sym e) ((promise first (standing m past) r).told y);
  reached = λ first past r. subst (Reached first) (sym (same past)) (then_call (granting y) r);
}
  where
    apart : (o : Option Code) (past : List ℕ) → standing (unless_refused o m (granted m y)) (unless_refused o past (y ∷ past)) ≡ unless_refused o (standing m past) (standing (granted m y) (y ∷ past))
    apart None past = refl
    apart (Some c) past = refl

    same : (past : List ℕ) → standing n (unless_refused answer past (y ∷ past)) ≡ after (granting y) (standing m past)
    same past =
        ap (λ t. standing t (unless_refused answer past (y ∷ past))) left
        ∙ apart answer past
        ∙ ap (λ o. unless_refused o (standing m past) (standing (granted m y) (y ∷ past))) e
