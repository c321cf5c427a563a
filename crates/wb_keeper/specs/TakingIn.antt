-- What a keeper's maps are, once it has taken in a datagram.
use Rattle.std.specs.Prelude.{ℕ, Bool, ◌||◌, List, length, is_some, nat_le, nat_lt, ◌+◌, Option, Some, None, unwrap_or, if◌then◌else◌}
use Rattle.std.specs.BTreeMap.{is_at, insert_entry}
use Rattle.std.specs.List.{list_all}
use Rattle.std.specs.Map.{remove_entry}
use Rattle.std.specs.Ordering.{nat_cmp}
use Rattle.wb_names.specs.Values.{MarkValue}
use Rattle.wb_names.specs.Orders.{page_cmp}
use Rattle.wb_names.specs.Marks.{mark_of, IsMerge}
use Rattle.wb_names.specs.Ascending.{AreMarks}
use Rattle.wb_names.specs.declared.entries.TheConstants.{MAX_ENTRIES}
use Rattle.wb_names.specs.declared.name.PageId.{PageId}
use Rattle.wb_codec.specs.declared.datagram.Datagram.{Datagram}
use Rattle.wb_codec.specs.declared.datagram.Datagram.TheVariants.{Draw, Session, Request, AskPages, PageState}
use Rattle.wb_keeper.specs.Keeping.{heard_at}
use Rattle.wb_keeper.specs.declared.keeper.Heard.{Heard}

-- the delay to a sender, if it told one
abbrev pub delays_with : ℕ → Option ℕ → List (ℕ × ℕ) → List (ℕ × ℕ)
delays_with sender None delays = delays
delays_with sender (Some delay) delays = insert_entry nat_cmp delays sender delay

-- it is remembered, or there is room for it
abbrev pub has_place : ℕ → List (ℕ × Heard) → Bool
has_place sender heard = is_some (heard_at heard sender) || nat_lt (length heard) MAX_ENTRIES

abbrev pub heard_with : ℕ → Heard → List (ℕ × Heard) → List (ℕ × Heard)
heard_with sender told heard = if has_place sender heard then insert_entry nat_cmp heard sender told else heard

-- how many are remembered then
abbrev pub count_with : ℕ → List (ℕ × Heard) → ℕ
count_with sender heard = if is_some (heard_at heard sender) || nat_le MAX_ENTRIES (length heard) then length heard else length heard + 1

-- what stood at a key stands there again
abbrev pub restored : {X : Type 0} → ℕ → Option X → List (ℕ × X) → List (ℕ × X)
restored key None entries = remove_entry (is_at (nat_cmp key)) entries
restored key (Some x) entries = insert_entry nat_cmp entries key x

-- the marks of a datagram are merged with those that were heard; None if these have all that the others tell
pub record IsMerged (heard told : List MarkValue) (merged : Option (List MarkValue)) : Type 0 where
  pub heard_are : AreMarks heard
  pub told_are : AreMarks told
  pub merges : IsMerge heard told (unwrap_or merged heard)

-- if the datagram tells marks, these are merged with what was heard of its page
abbrev pub AreMerged : (PageId → List MarkValue) → Datagram → Option (List MarkValue) → Type 0
AreMerged heard (Session sender sent page marks echoes) merged = IsMerged (heard page) marks merged
AreMerged heard (PageState sender page marks) merged = IsMerged (heard page) marks merged
AreMerged heard (Draw d) merged = Unit {0}
AreMerged heard (Request asker name) merged = Unit {0}
AreMerged heard (AskPages asker) merged = Unit {0}

-- the marks of a page, if they changed
abbrev pub marks_with : PageId → Option (List MarkValue) → List (PageId × List MarkValue) → List (PageId × List MarkValue)
marks_with page None marks = marks
marks_with page (Some merged) marks = insert_entry page_cmp marks page merged

-- the marks that were heard have all that these tell
abbrev pub has_all : List MarkValue → List MarkValue → Bool
has_all heard told = list_all (λ m. nat_le m.high (mark_of heard m.source)) told
