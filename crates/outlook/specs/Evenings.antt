-- What comes of a line that asks for a level, and of a whole evening.
use Rattle.std.specs.Prelude.{◌≡◌, ℕ, ◌<◌, List, [], ◌∷◌, ◌++◌, reverse, length, Some, None}
use Rattle.contract.specs.Meaning.{Meaning}
use Rattle.curve.specs.Reached.{standing, Reached}
use Rattle.windows.specs.Verdicts.{IsKept, verdict_refusal, Judges as JudgesRecord}
use Rattle.windows.specs.declared.refusals.ListFault.TheVariants.{TooLong}
use Rattle.evening.specs.Evenings.{Books as EveningBooks, Replies as EveningReplies, booked as evening_booked}
use Rattle.evening.specs.declared.replies.Reply.{Reply as EveningReply}
use Rattle.evening.specs.declared.replies.Reply.TheVariants.{Begins, Granted, Refused, Ends}
use Rattle.outlook.specs.declared.evenings.Evening.{Evening}
use Rattle.outlook.specs.declared.replies.Reply.{Reply}
use Rattle.outlook.specs.declared.replies.Reply.TheVariants.{Said, Foresees, Ahead, Judges, Unjudged}

-- what an evening holds between lines: what any evening does, and the levels granted, oldest first
pub record Books : Type 0 where
  pub evening : EveningBooks
  pub levels : List ℕ

abbrev pub booked : {C : Type 0} → (C → Meaning) → Evening C → Books
booked meaning e = record { evening = evening_booked meaning e.evening; levels = e.levels.items }

-- the levels after a reply to a line: a granted one stands at their end
abbrev pub levels_after : List ℕ → EveningReply → List ℕ
levels_after levels (Granted slot level) = levels ++ (level ∷ [])
levels_after levels (Refused at fault) = levels
levels_after levels (Begins letter memory) = levels
levels_after levels (Ends slots energy lowest) = levels

-- what line number `count` is answered, and what it leaves: a refused one leaves all as it was
abbrev pub Replies : Books → Books → ℕ → List ℕ → Reply → Type 0
Replies b a count line (Said reply) = EveningReplies b.evening a.evening count line reply × (a.levels ≡ levels_after b.levels reply)
Replies b a count line (Foresees slots energy) = ⊥
Replies b a count line (Ahead slot level) = ⊥
Replies b a count line (Judges verdict) = ⊥
Replies b a count line (Unjudged fault) = ⊥

-- the books are those of a contract that was new as `first`: calls have led to what it means now, and their history is
-- the levels granted
abbrev pub KeptBy : Meaning → Books → Type 0
KeptBy first b = Reached first (standing b.evening.meaning (reverse b.levels))

-- what is said of the levels granted: the verdict, or why there is none
abbrev pub JudgedReply : Meaning → List ℕ → Reply → Type 0
JudgedReply m levels (Judges v) = (verdict_refusal m levels ≡ None) × JudgesRecord m levels v
JudgedReply m levels (Unjudged fault) = verdict_refusal m levels ≡ Some fault
JudgedReply m levels (Said reply) = ⊥
JudgedReply m levels (Foresees slots energy) = ⊥
JudgedReply m levels (Ahead slot level) = ⊥

-- the levels are called kept, or there are more of them than a verdict takes
abbrev pub KeptReply : List ℕ → Reply → Type 0
KeptReply levels (Judges v) = IsKept v
KeptReply levels (Unjudged fault) = (65535 < length levels) × (fault ≡ TooLong)
KeptReply levels (Said reply) = ⊥
KeptReply levels (Foresees slots energy) = ⊥
KeptReply levels (Ahead slot level) = ⊥
