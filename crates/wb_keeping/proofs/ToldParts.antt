-- What a host tells by look-ups is what its policy tells of the whole report and of all pages.
use Rattle.std.proofs.Common.{◌≡◌, ℕ, List, [], ◌∷◌, Option, None, Some, ap, filter, map, refl}
use Rattle.std.specs.Prelude.{take}
use Rattle.std.specs.List.{last_or}
use Rattle.wb_names.specs.Ascending.{is_above}
use Rattle.wb_names.specs.Values.{DrawopValue, MarkValue}
use Rattle.wb_gaps.specs.Answers.{pages_of}
use Rattle.wb_gaps.specs.Starts.{is_past}
use Rattle.wb_gaps.specs.Telling.{pages_after}
use Rattle.wb_gaps.proofs.ListParts.{all_left}
use Rattle.wb_policy.specs.Choices.{last_source}
use Rattle.wb_policy.specs.Reports.{slice_after}

pub slice_told : (told : Option ℕ) (marks : List MarkValue) → take 64 (filter (λ m. is_above told m.source) marks) ≡ slice_after told marks
slice_told None marks = refl
slice_told (Some source) marks = refl

pub last_told : (told : Option ℕ) (marks : List MarkValue) → last_or told (map (λ (m : MarkValue). m.source) marks) ≡ last_source told marks
last_told told [] = refl
last_told told (m ∷ marks) = last_told (Some m.source) marks

pub first_told : (held : List DrawopValue) (most : ℕ) → pages_after held None most ≡ take most (pages_of held)
first_told held most = ap (take most) (all_left (is_past None) (pages_of held) (λ page. refl))
