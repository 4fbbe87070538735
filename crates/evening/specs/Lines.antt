-- The bytes of each reply.
use Rattle.std.specs.Prelude.{ℕ, List, ◌++◌, codes, decimal}
use Rattle.std.proofs.Math.Utf8.{encode}
use Rattle.contract.specs.Faults.{code}
use Rattle.contract.specs.Shown.{code_text}
use Rattle.evening.specs.declared.replies.Reply.{Reply}
use Rattle.evening.specs.declared.replies.Reply.TheVariants.{Begins, Granted, Refused, Ends}

abbrev pub reply_text : Reply → List ℕ
reply_text (Begins letter memory) = codes "contract " ++ (encode letter ++ (codes " memory " ++ decimal memory))
reply_text (Granted slot level) = codes "slot " ++ (decimal slot ++ (codes " level " ++ decimal level))
reply_text (Refused line fault) = codes "fault line " ++ (decimal line ++ (codes " " ++ code_text (code fault)))
reply_text (Ends slots energy lowest) =
    codes "end slots " ++ (decimal slots ++ (codes " energy " ++ (decimal energy ++ (codes " lowest " ++ decimal lowest))))
