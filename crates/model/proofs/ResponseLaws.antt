-- The response time of an offset by when it is ready, and the bound by the window.
use Rattle.std.proofs.Common.{◌≡◌, ℕ, ◌-◌, ◌<◌, ◌≤◌, Some, None}
use Rattle.std.proofs.lemmas.Bool.{lt-ltb, le-ltb}
use Rattle.model.specs.Analysis.{Parts, window, ready, ending, response, bound}
use Rattle.model.specs.Sums.{greatest}

module _ (m : Parts) (i : ℕ) where
  -- a job that is ready after its offset
  pub response_later : (A d : ℕ) → ready m i A ≡ Some d → A < d → response m i A ≡ ending m i d - A
  unfolding response
  response_later A d is later = rw (is, lt-ltb A d later)

  -- no job stands at an offset that has passed when it is ready
  pub response_passed : (A d : ℕ) → ready m i A ≡ Some d → d ≤ A → response m i A ≡ 0
  unfolding response
  response_passed A d is passed = rw (is, le-ltb A d passed)

  -- nor at one that is never ready
  pub response_never : (A : ℕ) → ready m i A ≡ None → response m i A ≡ 0
  unfolding response
  response_never A never = rw never

  -- the bound of a task that has a window
  pub bound_greatest : (w : ℕ) → window m i ≡ Some w → bound m i ≡ greatest w (response m i)
  unfolding bound
  bound_greatest w is = rw is
