-- What is sent as time goes on, or said, is held; and no answer at once is a drawop.
use Rattle.std.proofs.Common.{◌≡◌, ℕ, Bool, true, false, cond, List, [], ◌∷◌, ◌++◌, Option, Some, None, ap, refl, subst, eq-eqb, ⊎_elim}
use Rattle.std.specs.Prelude.{Contains, if◌then◌else◌}
use Rattle.std.specs.Option.{option_map}
use Rattle.std.proofs.lemmas.List.Elements.{Contains-append_right}
use Rattle.wb_names.specs.Values.{NameValue, DrawopValue}
use Rattle.wb_names.specs.Arrivals.{Outcome, New, Again, Clash, Left, history_with}
use Rattle.wb_names.specs.Orders.{same_name}
use Rattle.wb_names.proofs.Listings.{Any-from_map, Contains-cases, Contains-here, Contains-none, Contains-there}
use Rattle.wb_codec.specs.declared.datagram.Datagram.{Datagram}
use Rattle.wb_codec.specs.declared.datagram.Datagram.TheVariants.{Draw, PageState}
use Rattle.wb_gaps.specs.Answers.{reports_of}
use Rattle.wb_gaps.specs.declared.page_reports.PageReport.{PageReport}
use Rattle.wb_recovery.specs.declared.plan.Action.{Action}
use Rattle.wb_recovery.specs.declared.plan.Action.TheVariants.{Ask, Answer}
use Rattle.wb_keeper.specs.Hearing.{answers_to, asks_for_pages, page_states}
use Rattle.wb_keeper.specs.Ticks.{drawop_of, sent_for, sends_for}
use Rattle.wb_keeper.proofs.TickSends.{sent_from}
use Rattle.wb_member.specs.Lines.{said_where}
use Rattle.wb_laws_sessions.specs.Sessions.{Step, host_at}
use Rattle.wb_laws_sessions.specs.Members.{after_deed}
use Rattle.wb_laws_machines.proofs.Outcomes.{Found}
use Rattle.std.proofs.lemmas.Option.{same_Some}

-- a look-up finds a drawop of the history
found_drawop : (history : List DrawopValue) (name : NameValue) (d : DrawopValue) → drawop_of history name ≡ Some d → Contains history d
found_drawop [] name d e = cc
found_drawop (x ∷ history) name d e = at (found_drawop history name d) (same_name x.name name) e where
  at : (drawop_of history name ≡ Some d → Contains history d) → (b : Bool) → cond b (Some x) (drawop_of history name) ≡ Some d → Contains (x ∷ history) d
  at rest true e = subst (λ (w : DrawopValue). Contains (x ∷ history) w) (same_Some x d e) (Contains-here x history)
  at rest false e = Contains-there x d history (rest e)

-- whatever the actions, only drawops of the history are sent
pub answers_held : (me : ℕ) (history : List DrawopValue) (actions : List Action) (d : DrawopValue) → Contains (sends_for me history actions) (Draw d) → Contains history d
answers_held me history actions d c =
    let r = sent_from (sent_for me history) actions (Draw d) c in from r.0 r.2 where
      from : (action : Action) → sent_for me history action ≡ Some (Draw d) → Contains history d
      from (Ask n) e = cc
      from (Answer n) e = found_drawop history n d (by (drawop_of history n) e) where
        by : (o : Option DrawopValue) → option_map {T = DrawopValue} {U = Datagram} Draw o ≡ Some (Draw d) → o ≡ Some d
        by None e = cc
        by (Some x) e = cc

-- no answer at once is a drawop
pub no_answer : (me : ℕ) (history : List DrawopValue) (datagram : Datagram) (d : DrawopValue) → Contains (answers_to me history datagram) (Draw d) → ⊥
no_answer me history datagram d c = from (asks_for_pages me datagram) c where
  other : (me : ℕ) (r : PageReport) → PageState me r.page r.marks ≡ Draw d → ⊥
  other me r e = cc

  from : (b : Bool) → Contains (if b then page_states me history else []) (Draw d) → ⊥
  from true c = let r = Any-from_map (λ (r : PageReport). PageState me r.page r.marks) (reports_of history) (Draw d) c in other me r.1 r.4
  from false c = Contains-none (Draw d) c

pub one_of : {X : Type 0} (a b : X) → Contains (a ∷ []) b → a ≡ b
one_of a b c = ⊎_elim (λ (e : a ≡ b). e) (λ (d : Contains [] b). absurd (Contains-none b d)) (Contains-cases a b [] c)

pub one_draw : (x d : DrawopValue) → Draw x ≡ Draw d → x ≡ d
one_draw x d e = cc

pub said_held : (held : List DrawopValue) (x d : DrawopValue) (o : Outcome) → Found held x o → Contains (said_where x o) (Draw d) → Contains (history_with held x o) d
said_held held x d (New place) f c = subst (Contains (held ++ x ∷ [])) (one_draw x d (one_of (Draw x) (Draw d) c)) (Contains-append_right held (x ∷ []) x (Contains-here x []))
said_held held x d (Again place) f c = subst (Contains held) (one_draw x d (one_of (Draw x) (Draw d) c)) f
said_held held x d (Clash place) f c = absurd (Contains-none (Draw d) c)
said_held held x d Left f c = absurd (Contains-none (Draw d) c)

pub there : (numbers : ℕ → ℕ) (e : Step) (older : List Step) → host_at numbers (e ∷ older) e.place ≡ after_deed e.event (host_at numbers older e.place)
there numbers e older = ap (λ (b : Bool). cond b (after_deed e.event (host_at numbers older e.place)) (host_at numbers older e.place)) (eq-eqb e.place e.place refl)
