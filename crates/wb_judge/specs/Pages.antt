-- In which order pages are listed.
use Rattle.std.specs.Prelude.{ℕ, Bool, List, ◌&&◌, ◌||◌, nat_eq, nat_lt, if◌then◌else◌}
use Rattle.std.specs.List.{list_all, list_any}
use Rattle.wb_names.specs.Values.{NameValue}
use Rattle.wb_judge.specs.Strange.{has_name}
use Rattle.wb_judge.specs.declared.pages.Listed.{Listed}
use Rattle.wb_judge.specs.declared.pages.Rank.{Rank}
use Rattle.wb_judge.specs.declared.pages.Rank.TheVariants.{Members, Ours, Strangers}
use Rattle.wb_judge.specs.declared.strange.Given.{Given}

-- those of ours first, then those of members, then those of strangers alone
abbrev pub place_of : Rank → ℕ
place_of Ours = 0
place_of Members = 1
place_of Strangers = 2

-- whose drawops a page has, if these names of it are held
abbrev pub rank_of : ℕ → List Given → List NameValue → Rank
rank_of me given names =
    if list_any (λ n. nat_eq n.source me) names then Ours
    else if list_all (λ n. has_name n given) names then Strangers
    else Members

-- of each kind, the page that was drawn on last comes first
abbrev pub is_listed_before : Listed → Listed → Bool
is_listed_before p q = nat_lt (place_of p.rank) (place_of q.rank) || (nat_eq (place_of p.rank) (place_of q.rank) && nat_lt q.last p.last)
