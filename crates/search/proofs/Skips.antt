-- Why the search may go on from the demand that it found.
use Rattle.std.proofs.Common.{ℕ, ◌<◌, ◌≤◌, ⊎_elim, le_trans}
use Rattle.std.proofs.lemmas.Bool.{cases_lt}
use Rattle.model.specs.Arrivals.{last_length}
use Rattle.model.specs.Least.{Rises, Unmet}
use Rattle.model.proofs.LeastLaws.{skipped}

-- where no length below d meets the demand, none below the demand at d does, as far as the limit
pub unmet_further : (demand : ℕ → ℕ) (limit d : ℕ) → Rises demand last_length → limit ≤ last_length → Unmet 1 d demand → (e : ℕ) → 1 ≤ e → e ≤ limit → e < demand d → e < demand e
unmet_further demand limit d rises long so_far e positive within below =
    ⊎_elim (so_far e positive) (λ later. skipped demand limit (λ a b le fits. rises a b le (le_trans fits long)) d e later below within) (cases_lt e d)
