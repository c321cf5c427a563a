-- What a source gave so far.
use Rattle.std.specs.Prelude.{◌≡◌, ℕ, ◌+◌, ◌<◌, ◌≤◌, Bool, true, List, [], ◌∷◌, ◌++◌, length, Option, Some, None, Result, Ok, Err}
use Rattle.std.specs.declared.alloc.AllocError.{AllocError}
use Rattle.wb_names.specs.Values.{DrawopValue}

-- Some more came: the source a gave them and is b since, each has `most` to give at most, and was is what had come. `gives`
-- and `most` are its trait's
pub record HasArrived {A : Type 0} (gives : A → List DrawopValue → A → Type 0) (most : A → ℕ) (a : A) (was : List DrawopValue) (b : A) (arrived : List DrawopValue) : Type 0 where
  pub more : List DrawopValue
  pub given : gives a more b
  pub all : arrived ≡ was ++ more
  pub few : length arrived + most b ≤ length was + most a

-- one came: x is its position and it
pub record OneArrives {A : Type 0} (gives : A → List DrawopValue → A → Type 0) (most : A → ℕ) (a : A) (was : List DrawopValue) (b : A) (arrived : List DrawopValue) (x : ℕ × DrawopValue) : Type 0 where
  pub given : gives a (x.1 ∷ []) b
  pub nearer : most b < most a
  pub all : arrived ≡ was ++ x.1 ∷ []
  pub place : x.0 ≡ length was

abbrev pub NextArrives : {A : Type 0} → (A → List DrawopValue → A → Type 0) → (A → ℕ) → (A → Bool) → A → List DrawopValue → A → List DrawopValue → Result (Option (ℕ × DrawopValue)) AllocError → Type 0
NextArrives gives most has_ended a was b arrived (Err e) = (b ≡ a) × (arrived ≡ was)
NextArrives gives most has_ended a was b arrived (Ok None) = gives a [] b × (most b ≤ most a) × (arrived ≡ was) × (has_ended b ≡ true)
NextArrives gives most has_ended a was b arrived (Ok (Some x)) = OneArrives gives most a was b arrived x
