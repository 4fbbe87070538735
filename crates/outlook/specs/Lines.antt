-- The bytes of each reply.
use Rattle.std.specs.Prelude.{ℕ, List, ◌++◌, codes, decimal}
use Rattle.contract.specs.Shown.{code_text}
use Rattle.windows.specs.Refusals.{row}
use Rattle.windows.specs.Shown.{verdict_text}
use Rattle.evening.specs.Lines.{reply_text as said_text}
use Rattle.outlook.specs.declared.replies.Reply.{Reply}
use Rattle.outlook.specs.declared.replies.Reply.TheVariants.{Said, Foresees, Ahead, Judges, Unjudged}

abbrev pub reply_text : Reply → List ℕ
reply_text (Said reply) = said_text reply
reply_text (Foresees slots energy) = codes "forecast " ++ (decimal slots ++ (codes " energy " ++ decimal energy))
reply_text (Ahead slot level) = codes "ahead " ++ (decimal slot ++ (codes " level " ++ decimal level))
reply_text (Judges verdict) = codes "verdict " ++ verdict_text verdict
reply_text (Unjudged fault) = codes "verdict none " ++ code_text (row fault)
