-- While a number is missing below one that is held, each turn names such a number.
use Rattle.std.proofs.Common.{◌≡◌, ℕ, ◌+◌, ◌*◌, ◌≤◌, List, [], ◌∷◌, ◌∙◌, Option, Some, None, ap, arith, refl, subst, sym}
use Rattle.std.specs.Prelude.{◌%◌, Contains, min}
use Rattle.std.specs.List.{find}
use Rattle.std.specs.Option.{option_map, option_or}
use Rattle.wb_names.specs.Values.{DrawopValue, NameValue}
use Rattle.wb_names.specs.declared.gap.Gap.{Gap}
use Rattle.wb_names.specs.declared.name.PageId.{PageId}
use Rattle.wb_names.proofs.Listings.{Contains-none}
use Rattle.wb_gaps.specs.Answers.{gaps_of, pages_of}
use Rattle.wb_gaps.specs.Gaps.{IsMissing}
use Rattle.wb_gaps.specs.Holes.{begins_after, hole_after, hole_on, holes_of, holes_on}
use Rattle.wb_gaps.specs.Starts.{start}
use Rattle.wb_gaps.specs.declared.holes.Hole.{Hole}
use Rattle.wb_gaps.proofs.MissingRanges.{gaps_of_page}
use Rattle.wb_policy.specs.Fairness.{in_round, name_in_turn}
use Rattle.wb_policy.specs.Turns.{name_in, next_round, nowhere, number_in, window_in, windows_in}
use Rattle.wb_policy.specs.declared.turns.Turns.{Turns}
use Rattle.wb_policy.proofs.Cycle.{found_at}
use Rattle.wb_policy.proofs.FilledHoles.{hole_filled}
use Rattle.wb_policy.proofs.HolesRise.{Rise, found_first, holes_rise}
use Rattle.std.proofs.lemmas.Option.{none-some, same_Some}
use Rattle.std.proofs.Math.Nat.{min-le_right}
use Rattle.wb_kept_progress.specs.Repairs.{TurnsAsk}
use Rattle.wb_kept_progress.proofs.Turning.{from_flat, from_map, missing_is_lacked}
use Rattle.wb_kept_progress.proofs.WantedIn.{MayBeWanted, turn_asks_it}

-- the number of a hole that has its turn is one of its numbers
module _ (t : Turns) (gap : Gap) (filled : gap.first ≤ gap.last) where
  above : (first far step last : ℕ) → first ≤ last → first ≤ min (first + far + step) last
  above first far step last le = omega (arith, le)

  pub number_above : gap.first ≤ number_in t gap
  number_above = above gap.first (64 * (t.round % windows_in gap)) t.step gap.last filled

  pub number_below : number_in t gap ≤ gap.last
  number_below = min-le_right (window_in t.round gap + t.step) gap.last

-- a number of a hole is missing
pub missing_in : (held : List DrawopValue) (hole : Hole) (number : ℕ) → Contains (holes_of held) hole → hole.gap.first ≤ number → number ≤ hole.gap.last → IsMissing held hole.page [] hole.gap.source number
missing_in held hole number there low high =
    let p = from_flat (holes_on held) (pages_of held) hole there in
    let g = from_map (hole_on p.0) (gaps_of held p.0 []) hole p.1 in
    subst (λ (h : Hole). h.gap.first ≤ number → number ≤ h.gap.last → IsMissing held h.page [] h.gap.source number) g.2
    (λ low high. ((gaps_of_page held p.0 []).missing g.0.source number).0 (g.0, g.1, refl, low, high)) low high

-- of some holes one comes first
pub some_first : (hole : Hole) (holes : List Hole) → Contains holes hole → Rise holes → find (begins_after (start nowhere 0 0)) holes ≡ None → ⊥
some_first hole [] among rise none = Contains-none hole among
some_first hole (h ∷ holes) among rise none = differ h (sym (found_first h holes rise) ∙ none) where
  differ : (h : Hole) → Some h ≡ None → ⊥
  differ h e = cc

module _ (held : List DrawopValue) (t : Turns) where
  abbrev Names : Type 0
  Names = (n : NameValue) × (name_in_turn held t ≡ Some n) × IsMissing held n.page [] n.source n.seq

  abbrev named_by : Option Hole → Option Hole → Option NameValue
  named_by next first = option_map (name_in (in_round next t)) (option_or next first)

  named : (page : PageId) (source number : ℕ) (entered : Turns) (h : Hole) → hole_after held page source number ≡ Some h → name_in_turn held t ≡ Some (name_in entered h) → Names
  named page source number entered h found is =
      let c = found_at (begins_after (start page source number)) (holes_of held) h h found in
      let filled = (hole_filled held page source number h found).filled in
      (name_in entered h, is, missing_in held h (number_in entered h.gap) c (number_above entered h.gap filled) (number_below entered h.gap filled))

  pub turn_names : (hole : Hole) → Contains (holes_of held) hole → Names
  turn_names hole there = by (hole_after held t.page t.source t.number) refl (hole_after held nowhere 0 0) refl where
    by : (next : Option Hole) → hole_after held t.page t.source t.number ≡ next → (first : Option Hole) → hole_after held nowhere 0 0 ≡ first → Names
    by (Some h) e first f =
        named t.page t.source t.number t h e
        (ap (λ (o : Option Hole). named_by o (hole_after held nowhere 0 0)) e)
    by None e (Some h) f =
        named nowhere 0 0 (next_round t) h f
        (ap (λ (o : Option Hole). named_by o (hole_after held nowhere 0 0)) e ∙ ap (named_by None) f)
    by None e None f = absurd (some_first hole (holes_of held) there (holes_rise held) f)

  -- the name in turn is such a number
  pub turn_missing : (n : NameValue) → name_in_turn held t ≡ Some n → IsMissing held n.page [] n.source n.seq
  turn_missing n is = by (hole_after held t.page t.source t.number) refl (hole_after held nowhere 0 0) refl where
    of_names : Names → IsMissing held n.page [] n.source n.seq
    of_names x = subst (λ (m : NameValue). IsMissing held m.page [] m.source m.seq) (same_Some x.0 n (sym x.1 ∙ is)) x.2

    by : (next : Option Hole) → hole_after held t.page t.source t.number ≡ next → (first : Option Hole) → hole_after held nowhere 0 0 ≡ first → IsMissing held n.page [] n.source n.seq
    by (Some h) e first f = of_names (named t.page t.source t.number t h e (ap (λ (o : Option Hole). named_by o (hole_after held nowhere 0 0)) e))
    by None e (Some h) f = of_names (named nowhere 0 0 (next_round t) h f (ap (λ (o : Option Hole). named_by o (hole_after held nowhere 0 0)) e ∙ ap (named_by None) f))
    by None e None f = absurd (none-some n (sym (ap (λ (o : Option Hole). named_by o (hole_after held nowhere 0 0)) e ∙ ap (named_by None) f) ∙ is))

-- each turn asks for such a number, where a place of the credit is left
pub turns_ask : TurnsAsk
turns_ask k hole answers there room credit =
    let named = turn_names k.host.is.held k.policy.turns hole there in
    let n = named.0 in
    let may : MayBeWanted k n = record { answers_held = answers; lacks = missing_is_lacked k.host.is.held n named.2; room = room } in
    (n, named.1, named.2, turn_asks_it n k may credit named.1)
