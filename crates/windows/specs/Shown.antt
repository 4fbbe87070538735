-- How a verdict is written.
use Rattle.std.specs.Prelude.{ℕ, List, ◌++◌, Some, None, codes, decimal}
use Rattle.std.specs.Fmt.{signed_decimal}
use Rattle.windows.specs.declared.verdicts.Tightest.{Tightest}
use Rattle.windows.specs.declared.verdicts.Verdict.{Verdict}
use Rattle.windows.specs.declared.verdicts.Verdict.TheVariants.{Kept, Broken}

abbrev pub tightest_text : Tightest → List ℕ
tightest_text t = codes "margin " ++ (signed_decimal t.margin ++ (codes " end " ++ (decimal t.end ++ (codes " length " ++ decimal t.length))))

abbrev pub verdict_text : Verdict → List ℕ
verdict_text (Kept None) = codes "kept"
verdict_text (Kept (Some t)) = codes "kept " ++ tightest_text t
verdict_text (Broken t) = codes "broken " ++ tightest_text t
