use Rattle.std.proofs.Common.{◌≡◌, ℕ, List, [], ◌∷◌, Some, Option, sym, ap, ◌∙◌, subst}
use Rattle.contract.specs.Meaning.{Meaning, granted}
use Rattle.kinds.specs.Switches.{switch_meaning}
use Rattle.windows.specs.Forecasts.{forecast_energy, list_after}
use Rattle.windows.specs.Verdicts.{Judges}
use Rattle.curve.specs.Worked.{hand_switch}
use Rattle.worked.specs.Examples.{hand_verdict}
use Rattle.windows.specs.declared.verdicts.Verdict.{Verdict}
use Rattle.worked.proofs.Computed.{hand_judged, worked}
use Rattle.worked.proofs.worked_plan.Goals as goal

pub returns : goal.returns
returns c =
    let made = c.in_ok-switch.ensures.made in
    let after : switch_meaning c.dispatch.new.contract ≡ granted hand_switch 40 = c.in_ok-dispatch.ensures.after ∙ ap (λ (m : Meaning). granted m 40) made in
    let xs : List ℕ = 40 ∷ 30 ∷ 100 ∷ [] in
    let judged : c.in_ok-judged.judged ≡ hand_verdict = c.in_ok-judged.ensures.only hand_verdict (subst (λ (m : Meaning). Judges m xs hand_verdict) (sym made) hand_judged) in
    let levels : c.forecast.new.list ≡ 60 ∷ 100 ∷ [] = c.in_ok-energy.ensures.after ∙ ap (λ (m : Meaning). list_after m 2 (0 ∷ 0 ∷ [])) after in
    let energy : c.in_ok-energy.energy ≡ 160 = c.in_ok-energy.ensures.energy ∙ ap (λ (m : Meaning). forecast_energy m 2) after in
    let of : Verdict → List ℕ → ℕ → Option (Verdict × List ℕ × ℕ) = λ v l e. Some (v, l, e) in
    record { answers = ap (λ (v : Verdict). of v c.forecast.new.list c.in_ok-energy.energy) judged ∙ ap (λ (l : List ℕ). of hand_verdict l c.in_ok-energy.energy) levels ∙ ap (of hand_verdict (60 ∷ 100 ∷ [])) energy; worked = worked }
