-- Members keep the laws of machines.
use Rattle.std.proofs.Common.{◌⊎◌, ◌≤◌, Bool, true, false, cond, [], ◌∷◌, arith, inl, inr, length, refl, subst, sym, ⊎_elim}
use Rattle.std.specs.Prelude.{Contains, nat_eq}
use Rattle.wb_names.specs.Arrivals.{Outcome, New, Again, Clash, Left, outcome_of}
use Rattle.wb_names.specs.Values.{DrawopValue}
use Rattle.wb_names.proofs.Listings.{Contains-none}
use Rattle.wb_board.specs.Counts.{MAX_CELLS}
use Rattle.wb_codec.specs.declared.datagram.Datagram.TheVariants.{Draw}
use Rattle.wb_member.specs.Board.{Held}
use Rattle.wb_member.specs.Lines.{Arrives, Calls, Says}
use Rattle.wb_member.specs.Opened.{Opened, becomes}
use Rattle.wb_member.proofs.KeptBoards.{calls_keep_boards}
use Rattle.wb_laws_sessions.specs.Members.{drawn_by, new_where, Deed, Does, Opens, after_deed, IsSmall, gained_by, member}
use Rattle.wb_laws_sessions.proofs.Deeds.{number_after, once_after, saying_brings}
use Rattle.wb_laws_sessions.proofs.Room.{with_room}
use Rattle.wb_laws_machines.specs.Honest.{IsLawful}
use Rattle.wb_laws_machines.specs.Machines.{member_at}
use Rattle.wb_laws_machines.proofs.Mapped.{TakenAreSmall}

abbrev ComesTo : Deed → Opened → DrawopValue → Type 0
ComesTo deed host x = Contains host.is.held x ⊎ (Contains (gained_by deed host) x ⊎ Contains (drawn_by deed host) x)

brings : (deed : Deed) (host : Opened) (x : DrawopValue) → Contains (after_deed deed host).is.held x → ComesTo deed host x
brings (Does (Arrives d)) host x c = ⊎_elim
    (λ (was : Contains host.is.held x). inl was)
    (λ (is : Contains (new_where d (outcome_of host.is.cells host.is.held d)) x). inr (inl is))
    (saying_brings host.is.held d x (outcome_of host.is.cells host.is.held d) c)
brings (Does (Says (Draw d))) host x c = ⊎_elim
    (λ (was : Contains host.is.held x). inl was)
    (λ (is : Contains (new_where d (outcome_of host.is.cells host.is.held d)) x). inr (inr is))
    (saying_brings host.is.held d x (outcome_of host.is.cells host.is.held d) c)
brings (Does (Says v)) host x c = inl c
brings (Does (Calls call)) host x c = inl (subst (λ (b : Held). Contains b.drawops x) (calls_keep_boards call host).board c)
brings (Opens constants cells seed) host x c = absurd (Contains-none x c)

room : (deed : Deed) (host : Opened) → length host.is.held ≤ host.is.cells → length (after_deed deed host).is.held ≤ (after_deed deed host).is.cells
room (Does (Arrives d)) host few = with_room host.is.cells host.is.held d (outcome_of host.is.cells host.is.held d) refl few
room (Does (Says (Draw d))) host few = with_room host.is.cells host.is.held d (outcome_of host.is.cells host.is.held d) refl few
room (Does (Says v)) host few = few
room (Does (Calls call)) host few = subst (λ (b : Held). length b.drawops ≤ b.cells) (sym (calls_keep_boards call host).board) few
room (Opens constants cells seed) host few = omega arith

-- what is taken anew is one drawop at most
pub new_few : (d : DrawopValue) (o : Outcome) → length (new_where d o) ≤ 1
new_few d (New place) = omega arith
new_few d (Again place) = omega arith
new_few d (Clash place) = omega arith
new_few d Left = omega arith

few : (deed : Deed) (host : Opened) → length (drawn_by deed host) ≤ 1
few (Does (Says (Draw d))) host = new_few d (becomes d host)
few deed host = omega arith

pub member_is_lawful : IsLawful member
member_is_lawful = record {
  numbered = λ n. refl;
  empty = λ n. refl;
  keeps = number_after;
  brings = brings;
  few = few;
  once = once_after;
  room = room;
}

-- ---- boards of taken sessions are small

deed_small : (deed : Deed) (host : Opened) → IsSmall deed → host.is.cells ≤ MAX_CELLS → (after_deed deed host).is.cells ≤ MAX_CELLS
deed_small (Does (Arrives d)) host is small = small
deed_small (Does (Says (Draw d))) host is small = small
deed_small (Does (Says v)) host is small = small
deed_small (Does (Calls call)) host is small = subst (λ (b : Held). b.cells ≤ MAX_CELLS) (sym (calls_keep_boards call host).board) small
deed_small (Opens constants cells seed) host is small = is

pub members_are_small : TakenAreSmall member
members_are_small numbers [] i taken = omega arith
members_are_small numbers (e ∷ older) i taken = by (members_are_small numbers older i taken.1) (nat_eq e.place i) where
  by : (member_at member numbers older i).is.cells ≤ MAX_CELLS → (b : Bool) → (cond b (after_deed e.event (member_at member numbers older i)) (member_at member numbers older i)).is.cells ≤ MAX_CELLS
  by rest true = deed_small e.event (member_at member numbers older i) taken.0 rest
  by rest false = rest
