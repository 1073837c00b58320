-- A fleet's own arrivals: what they mean, and that they keep the laws.
-- Cited by the part `Bursts`.
use Rattle.std.specs.Prelude.{◌≡◌, ℕ, suc, ◌+◌, ◌-◌, ◌/◌, ◌≤◌, true, ◌&&◌, nat_le, nat_lt, refl}
use Rattle.std.proofs.Common.{ap, div-le_self, arith}
use Rattle.std.proofs.lemmas.Bool.{lt-ltb, le-ltb, le-leb, leb-true, and_left, and_right, and_from, and_parts}
use Rattle.kinds.proofs.ArrivalLaws.{quotient_rises}
use Rattle.model.specs.Arrivals.{ArrivalsMeaning, LawfulArrivals}
use Rattle.model.specs.Sums.{when}
use Rattle.model.proofs.SumLaws.{when_below, when_implies}

-- at once a job and `extra` more, and then one after each gap
abbrev pub burst_count : ℕ → ℕ → ℕ → ℕ
burst_count extra gap d = 1 + extra + (d - 1) / suc gap

abbrev pub bursts : ℕ → ℕ → ℕ → ArrivalsMeaning
bursts tasks extra gap = record { tasks = tasks; count = λ k d. when (nat_lt k tasks && nat_le 1 d) (burst_count extra gap d) }

module _ (tasks extra gap : ℕ) (small : extra ≤ 255) where
  -- a task that releases in d ticks does so in more
  asked : (k d e : ℕ) → d ≤ e → (nat_lt k tasks && nat_le 1 d) ≡ true → (nat_lt k tasks && nat_le 1 e) ≡ true
  asked k d e longer both =
      let parts = and_parts (nat_lt k tasks) (nat_le 1 d) both in
      and_from (nat_lt k tasks) (nat_le 1 e) parts.0 (le-leb 1 e (omega (arith, leb-true 1 d parts.1)))

  pub bursts_lawful : LawfulArrivals (bursts tasks extra gap)
  bursts_lawful =
      record {
        none_at_zero = λ k has. ap (λ b. when b (burst_count extra gap 0)) (and_right (nat_lt k tasks) (nat_le 1 0) refl);
        some_at_one = λ k has. rw (lt-ltb k tasks has) (omega arith);
        bounded = λ k d has short. when_below (nat_lt k tasks && nat_le 1 d) (burst_count extra gap d) _ (λ _. omega (arith, div-le_self (d - 1) (suc gap)));
        rises = λ k d e has longer short. when_implies (nat_lt k tasks && nat_le 1 d) (nat_lt k tasks && nat_le 1 e) _ _ (asked k d e longer)
            (λ _. omega (arith, quotient_rises (d - 1) (e - 1) (suc gap) (omega arith) (omega arith)));
        absent = λ k d past short. ap (λ b. when b (burst_count extra gap d)) (and_left (nat_lt k tasks) (nat_le 1 d) (le-ltb k tasks past));
      }
