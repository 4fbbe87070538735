use Rattle.std.proofs.Common.{◌≡◌, ℕ, ◌+◌, ◌<◌, ◌≤◌, ◌∷◌, get_or}
use Rattle.windows.proofs.sums.Windows.slide.Given as goal

-- below i the windows have slid, from there on they have not
abbrev pub invariant-loop-i : goal.invariant-loop-i
invariant-loop-i l = record {
  before : l.before ≡ get_or (0 ∷ l.initial.self.sums) l.i 0;
  slid : (k : ℕ) → k < l.i → get_or l.self.sums k 0 ≡ l.level + get_or (0 ∷ l.initial.self.sums) k 0;
  others : (k : ℕ) → l.i ≤ k → get_or l.self.sums k 0 ≡ get_or l.initial.self.sums k 0;
}
