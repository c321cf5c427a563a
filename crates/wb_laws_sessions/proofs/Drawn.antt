-- Nothing is invented: what is held was drawn, and each name means one drawop.
use Rattle.std.proofs.Common.{◌≡◌, ◌⊎◌, ℕ, ◌≤◌, List, [], ◌∷◌, refl, subst, ⊎_elim}
use Rattle.std.specs.Prelude.{Contains}
use Rattle.wb_names.specs.Arrivals.{Outcome, New, Again, Clash, Left}
use Rattle.wb_names.specs.History.{IsHistory}
use Rattle.wb_names.specs.Values.{DrawopValue}
use Rattle.wb_names.proofs.Listings.{Contains-none}
use Rattle.wb_member.specs.Lines.{Arrives, Calls, Says}
use Rattle.wb_member.specs.Opened.{Opened, becomes}
use Rattle.wb_laws_machines.specs.Honest.{AnyName, AreApart, AreHonest as AreHonestOf, IsAbove}
use Rattle.wb_laws_machines.specs.Machines.{whole}
use Rattle.wb_laws_machines.proofs.Drawn as of
use Rattle.wb_laws_sessions.specs.Drawn.{AreHonest, WasDrawn, WasHeld, drawn_at}
use Rattle.wb_laws_sessions.specs.Members.{Deed, Does, Opens, drawn_by, gained_by, member, new_where}
use Rattle.wb_laws_sessions.specs.Sessions.{Step, host_at}
use Rattle.wb_laws_sessions.proofs.Deeds.{deed_draws}
use Rattle.wb_laws_sessions.proofs.Members.{member_is_lawful}
use Rattle.wb_laws_sessions.proofs.Sending.{one_of}

-- what is taken anew is the drawop that came
pub new_is : (d x : DrawopValue) (o : Outcome) → Contains (new_where d o) x → d ≡ x
new_is d x (New i) c = one_of d x c
new_is d x (Again i) c = absurd (Contains-none x c)
new_is d x (Clash i) c = absurd (Contains-none x c)
new_is d x Left c = absurd (Contains-none x c)

gained_arrives : (deed : Deed) (host : Opened) (d : DrawopValue) → Contains (gained_by deed host) d → deed ≡ Does (Arrives d)
gained_arrives (Does (Arrives x)) host d c = subst (λ (y : DrawopValue). Does (Arrives x) ≡ Does (Arrives y)) (new_is x d (becomes x host) c) refl
gained_arrives (Does (Says v)) host d c = absurd (Contains-none d c)
gained_arrives (Does (Calls call)) host d c = absurd (Contains-none d c)
gained_arrives (Opens constants cells seed) host d c = absurd (Contains-none d c)

module _ (numbers : ℕ → ℕ) where
  -- ---- steps as events of a machine

  pub honest_is : (steps : List Step) → AreHonest numbers steps → AreHonestOf AnyName member numbers steps
  honest_is [] honest = tt
  honest_is (e ∷ older) honest =
      let host : Opened = host_at numbers older e.place in (
        record {
          comes = λ d any c. honest.0.comes d (gained_arrives e.event host d c);
          own = λ d any c. honest.0.own d (deed_draws e.event host d c).said;
          new = λ d any c.
              let by = deed_draws e.event host d c in
              ⊎_elim
              (λ (was : Contains host.is.held d). absurd (by.new d was refl))
              (λ (above : IsAbove (drawn_at numbers older e.place) d.name). above)
              (honest.0.new d by.said);
        },
        honest_is older honest.1,
      )

  -- by this step, or before
  pub drawn_cases : (e : Step) (older : List Step) (i : ℕ) (d : DrawopValue) → Contains (drawn_at numbers (e ∷ older) i) d → ((e.place ≡ i) × Contains (drawn_by e.event (host_at numbers older i)) d) ⊎ Contains (drawn_at numbers older i) d
  drawn_cases = of.drawn_cases member numbers

  pub numbers_count : (steps : List Step) → AreHonest numbers steps → (i : ℕ) (d : DrawopValue) → Contains (drawn_at numbers steps i) d → (d.name.source ≡ numbers i) × (1 ≤ d.name.seq)
  numbers_count steps honest i d c = of.numbers_count member numbers AnyName member_is_lawful steps (honest_is steps honest) i d tt c

-- ---- what holds

pub once_held_was_drawn : (numbers : ℕ → ℕ) (steps : List Step) → AreHonest numbers steps → (d : DrawopValue) → WasHeld numbers steps d → WasDrawn numbers steps d
once_held_was_drawn numbers steps honest d w =
    of.each_was_drawn member numbers AnyName member_is_lawful steps (honest_is numbers steps honest) w.older w.behind w.place d tt w.held

pub held_was_drawn : (numbers : ℕ → ℕ) (steps : List Step) → AreHonest numbers steps → (i : ℕ) (d : DrawopValue) → Contains (host_at numbers steps i).is.held d → WasDrawn numbers steps d
held_was_drawn numbers steps honest i d c = of.each_was_drawn member numbers AnyName member_is_lawful steps (honest_is numbers steps honest) steps whole i d tt c

pub names_mean_one : (numbers : ℕ → ℕ) (steps : List Step) → AreApart numbers → AreHonest numbers steps → (d x : DrawopValue) → WasDrawn numbers steps d → WasDrawn numbers steps x → d.name ≡ x.name → d ≡ x
names_mean_one numbers steps apart honest d x c f same = of.names_mean_one member numbers AnyName member_is_lawful apart steps (honest_is numbers steps honest) d x tt c f same

pub held_once : (numbers : ℕ → ℕ) (steps : List Step) (i : ℕ) → IsHistory (host_at numbers steps i).is.held
held_once numbers steps i = of.held_once_at member numbers member_is_lawful steps i
