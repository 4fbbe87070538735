use Rattle.std.proofs.Common.{◌≡◌, ℕ, ◌+◌, ◌-◌, ◌<◌, ◌≤◌, ◌⊎◌, Some, None, Option, inl, inr, arith, rules}
use Rattle.std.specs.Option.{SomeIff, unwrap_or}
use Rattle.kinds.specs.Rings.{recent}
use Rattle.kinds.specs.Recalls.{under_push}
use Rattle.kinds.proofs.Turns.{turn_push}
use Rattle.kinds.proofs.rings.Ring.push.Goals as goal

-- the place before the newest: the one below it, and the last one below place 0
before : (o : Option ℕ) (n at : ℕ) → SomeIff o (1 ≤ n) (n - 1) → at ≡ unwrap_or o 95 → n < 96 → (at < 96) × ((at + 1 ≡ n) ⊎ ((n ≡ 0) × (at + 1 ≡ 96)))
before None n at s e h = (omega arith, inr (omega (arith, s), omega arith))
before (Some k) n at s e h = (omega (arith, s.0, s.1), inl (omega (arith, s.0, s.1)))

pub returns : goal.returns
returns c =
    let ring = c.args.self.now in
    let b = before c.checked_sub.result ring.newest c.unwrap_or-at.result c.checked_sub.ensures c.unwrap_or-at.ensures c.requires in
    let after = turn_push ring.levels 96 (search rules) ring.newest c.unwrap_or-at.result c.args.level b.0 b.1 in
    record {
      after = after;
      held = λ top h below. let u = under_push (recent ring) _ c.args.level top after h.1 h.2 below in (b.0, u.0, u.1);
    }
