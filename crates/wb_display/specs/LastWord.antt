-- The latest of the deletes and restores that name a drawop.
use Rattle.std.specs.Prelude.{◌≡◌, Bool, true, false, ◌&&◌, not, List, Contains, Option, Some, None, unwrap_or, if◌then◌else◌}
use Rattle.std.specs.declared.cmp.Ordering.{Ordering}
use Rattle.std.specs.Ordering.{nat_cmp, ordering_then, is_lt}
use Rattle.wb_names.specs.Values.{DrawopValue}
use Rattle.wb_names.specs.Orders.{same_page}
use Rattle.wb_names.specs.declared.name.PageId.{PageId}
use Rattle.wb_names.specs.declared.parts.Op.{Op}
use Rattle.wb_names.specs.declared.parts.Op.TheVariants.{Aimed}
use Rattle.wb_display.specs.Display.{is_delete, is_drawing, has_target}
use Rattle.wb_names.specs.declared.parts.Target.{Target}
use Rattle.wb_display.specs.declared.last_words.LastWord.{LastWord}

-- what names a drawop on its page
abbrev pub own_target : DrawopValue → Target
own_target d = record { source = d.name.source; seq = d.name.seq }

-- by time, then by source, then by number
abbrev pub word_cmp : LastWord → LastWord → Ordering
word_cmp a b = ordering_then (nat_cmp a.time b.time) (ordering_then (nat_cmp a.source b.source) (nat_cmp a.seq b.seq))

-- the later of what was said so far and one word more
abbrev pub later_word : Option LastWord → LastWord → LastWord
later_word None word = word
later_word (Some before) word = if is_lt (word_cmp before word) then word else before

-- what a delete or a restore says
abbrev pub word_of : DrawopValue → LastWord
word_of e = record { time = e.time; source = e.name.source; seq = e.name.seq; hides = is_delete e.op }

-- the target that a delete or a restore names
abbrev pub aimed_target : Op → Option Target
aimed_target (Aimed change t) = Some t
aimed_target op = None

-- the one drawop whose showing d may change: its target, or itself where it has none
abbrev pub affected_target : DrawopValue → Target
affected_target d = unwrap_or (aimed_target d.op) (own_target d)

-- e is a delete or a restore on the page, of this target
abbrev pub speaks_of : PageId → Target → DrawopValue → Bool
speaks_of page target e = same_page e.name.page page && has_target e.op target.source target.seq

-- of the deletes and restores of a target in the history there is none, or w is what the latest says
abbrev pub IsLastWord : List DrawopValue → PageId → Target → Option LastWord → Type 0
IsLastWord history page target None = (e : DrawopValue) → Contains history e → speaks_of page target e ≡ false
IsLastWord history page target (Some w) =
    ((e : DrawopValue) × Contains history e × (speaks_of page target e ≡ true) × (word_of e ≡ w))
    × ((f : DrawopValue) → Contains history f → speaks_of page target f ≡ true → is_lt (word_cmp w (word_of f)) ≡ false)

-- whether the last word hides; a drawop of which nothing is said is not hidden
abbrev pub hides : Option LastWord → Bool
hides None = false
hides (Some w) = w.hides

-- whether a drawop is shown on a page where w is the last word on it
abbrev pub is_shown_by : PageId → DrawopValue → Option LastWord → Bool
is_shown_by page d w = (same_page d.name.page page && is_drawing d.op) && not (hides w)
