-- Demand 3 of the calls that C makes. Assumes nothing.
use Prim.Native.Nat.{ℕ, ◌≤◌}
use mathlib.Core.Path.{◌≡◌, refl, sym, ap, subst, ◌∙◌}
use mathlib.Core.Bool.{Bool, true, false}
use mathlib.Core.List.{List, [], ◌∷◌}
use lib.Dec.{eqb}
use lib.ListN.{length, take}
use borrow.Author.Tests.{eqb-true, ne_eqb}
use Rattle.basics.specs.Choice.{pick}
use Rattle.verdict.specs.Verdict.{verdict}
use Rattle.machine.specs.Public.{called, begin_call}
use Rattle.machine.specs.Layout.{page_size}
use Rattle.sound.specs.Histories.{begun_result, begun_state, result, state_left, page_left, answers_left, Devices, Handed, Served, call_of, refused, history, order, order_of, written, written_of, state_after, Calls, begun_with, History, first, steps, processes, answers, finally}
use Rattle.sound.proofs.Runs.CallLists.{refused_call}
use Rattle.sound.proofs.Theorems.Demand3.{demand3}
use Rattle.sound.proofs.Theorems.TestedAlike.{tested_alike}
use Rattle.joyce.specs.Calls.{Call, Kept, Chained, Each, Fits, Log, asks, named, answered, leaves, made, CallHolds, LogHolds}

served : (b : Bool) → pick b false true ≡ false → b ≡ true
served true e = refl
served false e = sym e

swapped : (b : Bool) (x y : List ℕ) → pick (pick b false true) x y ≡ pick b y x
swapped true x y = refl
swapped false x y = refl

-- the edition of width w
module _ (w : ℕ) where
  -- what a call that keeps the contract returns and leaves
  module _ (s : List ℕ) (c : Call) (f : Kept w s c) where
    is : called c.result c.state_after c.page_after c.answers_after ≡ call_of verdict w s c.ask
    unfolding call_of
    is = rw f.state at f.contract

    pub result-is : result (call_of verdict w s c.ask) ≡ c.result
    unfolding result
    result-is = rw (← is)

    pub state-is : state_left (call_of verdict w s c.ask) ≡ c.state_after
    unfolding state_left
    state-is = rw (← is)

    pub page_is : page_left (call_of verdict w s c.ask) ≡ c.page_after
    unfolding page_left
    page_is = rw (← is)

    answers_are : answers_left (call_of verdict w s c.ask) ≡ c.answers_after
    unfolding answers_left
    answers_are = rw (← is)

    refused_is : refused verdict w s c.ask ≡ pick (eqb c.result 0) false true
    unfolding refused
    refused_is = rw (result-is)

    taken : refused verdict w s c.ask ≡ false → c.result ≡ 0
    taken e = eqb-true c.result 0 (served (eqb c.result 0) (sym refused_is ∙ e))

    pub written_is : written_of verdict w s c.ask ≡ pick (eqb c.result 0) (take (length c.ask.schedule) c.answers_after) []
    unfolding written_of
    written_is = rw (refused_is, answers_are) (swapped (eqb c.result 0) _ _)

  -- the calls of a log are those of a history of `sound`
  calls_fit : (t s : List ℕ) (cs : List Call) → Chained w s cs → Each (Fits t) cs → Calls verdict w t s (asks cs)
  unfolding Calls asks Chained Each
  calls_fit t s [] h k = tt
  calls_fit t s (c ∷ cs) (f, h) (g, k) = (
    record { same = λ e. g.same (taken s c f e); bytes = g.bytes },
    rw (state-is s c f) (calls_fit t c.state_after cs h k),
  )

  pub written_are : (s : List ℕ) (cs : List Call) → Chained w s cs → written verdict w s (asks cs) ≡ answered cs
  unfolding written answered asks Chained
  written_are s [] h = refl
  written_are s (c ∷ cs) (f, h) = rw (written_is s c f, state-is s c f, written_are c.state_after cs h)

  pub leaves_is : (s : List ℕ) (cs : List Call) → Chained w s cs → state_after verdict w s (asks cs) ≡ leaves s cs
  unfolding state_after leaves asks Chained
  leaves_is s [] h = refl
  leaves_is s (c ∷ cs) (f, h) =
      ap (λ z. state_after verdict w z (asks cs)) (state-is s c f) ∙ leaves_is c.state_after cs h

  order_is : (s : List ℕ) (c : Call) → Kept w s c → order_of verdict w s c.ask ≡ pick (eqb c.result 0) c.ask.schedule []
  unfolding order_of
  order_is s c f = rw (refused_is s c f) (swapped (eqb c.result 0) _ _)

  named_are : (s : List ℕ) (cs : List Call) → Chained w s cs → order verdict w s (asks cs) ≡ named cs
  unfolding order named asks Chained
  named_are s [] h = refl
  named_are s (c ∷ cs) (f, h) = rw (order_is s c f, state-is s c f, named_are c.state_after cs h)

  made_are : (s : List ℕ) (cs : List Call) → Chained w s cs → history verdict w s (asks cs) ≡ made w cs
  unfolding history made asks Chained
  made_are s [] h = refl
  made_are s (c ∷ cs) (f, h) = rw (f.state, state-is s c f, made_are c.state_after cs h)

  -- each call
  module _ (t s : List ℕ) (c : Call) (f : Kept w s c) where
    left_alone : (c.result ≡ 0 → ⊥) → called c.result c.state_after c.page_after c.answers_after ≡ called (result (call_of verdict w s c.ask)) s c.ask.page c.ask.answers
    left_alone n = is s c f ∙ refused_call verdict w s c.ask (refused_is s c f ∙ rw (ne_eqb c.result 0 n))

    call_holds : Devices verdict w s c.ask
        → (c.ask.table ≡ t → length c.ask.page ≡ page_size → length c.ask.schedule ≤ length c.ask.answers → refused verdict w s c.ask ≡ false)
        → CallHolds w t c
    unfolding state_left page_left answers_left
    call_holds d v = record {
      state = rw f.state (sym (state-is s c f) ∙ d.state);
      page = rw f.state (sym (page_is s c f) ∙ d.left);
      served = λ e p l. taken s c f (v e p l);
      unchanged = λ n.
          (ap state_left (left_alone n) ∙ sym f.state, (ap page_left (left_alone n), ap answers_left (left_alone n)));
    }

  calls_hold : (t s : List ℕ) (cs : List Call) → Chained w s cs → Handed verdict w s (asks cs) → Served verdict w t s (asks cs) → Each (CallHolds w t) cs
  unfolding Handed Served Each asks Chained
  calls_hold t s [] h k v = tt
  calls_hold t s (c ∷ cs) (f, h) (d, k) (u, v) = (
    call_holds t s c f d u,
    calls_hold t c.state_after cs h
        (subst (λ z. Handed verdict w z (asks cs)) (state-is s c f) k)
        (subst (λ z. Served verdict w t z (asks cs)) (state-is s c f) v),
  )

  module _ (g : Log w) where
    begins : begun_result (begin_call verdict w g.table g.slice g.number) ≡ 0
    unfolding begun_result
    begins = rw (← g.begins)

    first-is : begun_with verdict w g.table g.slice g.number ≡ g.state
    unfolding begun_with begun_state
    first-is = rw (← g.begins)

    -- the history of a log
    history_of : History verdict w
    history_of = record {
      table = g.table;
      slice = g.slice;
      number = g.number;
      calls = asks g.calls;
      bytes = g.bytes;
      begins = begins;
      fits = rw (first-is) (calls_fit g.table g.state g.calls g.chained g.fits);
    }

    first_so : first verdict w history_of ≡ g.state
    unfolding history_of
    first_so = first-is

    steps_so : steps verdict w history_of ≡ made w g.calls
    unfolding history_of
    steps_so = ap (λ z. history verdict w z (asks g.calls)) first-is ∙ made_are g.state g.calls g.chained

    order_so : processes (steps verdict w history_of) ≡ named g.calls
    unfolding history_of
    order_so =
        (demand3 w history_of).named
        ∙ (ap (λ z. order verdict w z (asks g.calls)) first-is ∙ named_are g.state g.calls g.chained)

    answers_so : answers (steps verdict w history_of) ≡ answered g.calls
    unfolding history_of
    answers_so =
        (demand3 w history_of).answered
        ∙ (ap (λ z. written verdict w z (asks g.calls)) first-is ∙ written_are g.state g.calls g.chained)

    last_so : finally (first verdict w history_of) (steps verdict w history_of) ≡ leaves g.state g.calls
    unfolding history_of
    last_so =
        (demand3 w history_of).last
        ∙ (ap (λ z. state_after verdict w z (asks g.calls)) first-is ∙ leaves_is g.state g.calls g.chained)

    calls_so : Each (CallHolds w g.table) g.calls
    unfolding history_of
    calls_so =
        calls_hold g.table g.state g.calls g.chained
        (subst (λ z. Handed verdict w z (asks g.calls)) first-is (demand3 w history_of).handed)
        (subst (λ z. Served verdict w g.table z (asks g.calls)) first-is (demand3 w history_of).served)

  -- THE THEOREM, of the calls that C makes: whoever keeps a log of them can rely on it
  pub calls_demand3 : (g : Log w) → LogHolds w g
  unfolding history_of
  calls_demand3 g = record {
    run = history_of g;
    table = refl;
    number = refl;
    lent = refl;
    demand3 = demand3 w (history_of g);
    tested = tested_alike w (history_of g);
    begins = first_so g;
    steps = steps_so g;
    order = rw (← steps_so g) (order_so g);
    answers = rw (← steps_so g) (answers_so g);
    last = ap (finally g.state) (sym (steps_so g)) ∙ ap (λ z. finally z (steps verdict w (history_of g))) (sym (first_so g)) ∙ last_so g;
    calls = calls_so g;
    alike = λ k e z. sym (first_so k) ∙ (demand3 w (history_of g)).alike (history_of k) e z ∙ first_so g;
    agrees = λ k e z n q. rw (← steps_so k, ← steps_so g) ((demand3 w (history_of g)).agrees (history_of k) e z n (rw (← steps_so k, ← steps_so g) at q));
  }
