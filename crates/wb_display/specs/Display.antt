-- What a page shows.
use Rattle.std.specs.Prelude.{ℕ, Bool, true, false, not, ◌&&◌, IsTrue, List, Contains, nat_eq}
use Rattle.std.specs.List.{list_any}
use Rattle.std.specs.Ordering.{is_lt}
use Rattle.wb_names.specs.Values.{DrawopValue}
use Rattle.wb_names.specs.Orders.{same_page, display_cmp}
use Rattle.wb_names.specs.Listing.{Lists}
use Rattle.wb_names.specs.declared.name.PageId.{PageId}
use Rattle.wb_names.specs.declared.parts.Change.TheVariants.{Delete, Restore}
use Rattle.wb_names.specs.declared.parts.Op.{Op}
use Rattle.wb_names.specs.declared.parts.Op.TheVariants.{Drawn, Text, Aimed}

-- an operation that puts glyphs on the page
abbrev pub is_drawing : Op → Bool
is_drawing (Drawn figure s) = true
is_drawing (Text x y text) = true
is_drawing (Aimed change t) = false

abbrev pub is_delete : Op → Bool
is_delete (Aimed Delete t) = true
is_delete op = false

abbrev pub is_restore : Op → Bool
is_restore (Aimed Restore t) = true
is_restore op = false

-- a delete or a restore of this number of this source
abbrev pub has_target : Op → ℕ → ℕ → Bool
has_target (Aimed change t) source n = nat_eq t.source source && nat_eq t.seq n
has_target op source n = false

-- e is a delete or a restore of d: it is on the page of d and names it
abbrev pub is_aimed_at : DrawopValue → DrawopValue → Bool
is_aimed_at e d = same_page e.name.page d.name.page && has_target e.op d.name.source d.name.seq

-- no delete or restore of d in the history is later than e
abbrev pub is_last_word : List DrawopValue → DrawopValue → DrawopValue → Bool
is_last_word history d e = not (list_any (λ f. is_aimed_at f d && is_lt (display_cmp e f)) history)

-- the latest of the deletes and restores of d in the history is a delete
abbrev pub is_hidden_in : List DrawopValue → DrawopValue → Bool
is_hidden_in history d = list_any (λ e. (is_delete e.op && is_aimed_at e d) && is_last_word history d e) history

-- a drawing on the page that is not hidden
abbrev pub is_shown : List DrawopValue → PageId → DrawopValue → Bool
is_shown history page d = (same_page d.name.page page && is_drawing d.op) && not (is_hidden_in history d)

-- the shown drawops of the page, in the order of display
abbrev pub IsView : List DrawopValue → PageId → List DrawopValue → Type 0
IsView history page shown = Lists display_cmp (λ d. Contains history d × IsTrue (is_shown history page d)) shown
