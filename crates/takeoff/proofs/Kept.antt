-- What a reader keeps of a lawful takeoff: its segments and weights at the front of their places. Assumes nothing.
use Rattle.std.proofs.Common.{◌≡◌, ℕ, ◌<◌, ◌≤◌, List, [], ◌∷◌, map, length, get_or, take, Some, Option, sym, refl, ap, ◌∙◌, subst, arith}
use Rattle.std.specs.List.{AllByRecursion}
use Rattle.std.proofs.ByRecursion.{All-get_or}
use Rattle.std.proofs.lemmas.List.{get_or-map, length-map, map-id}
use Rattle.network.specs.declared.record.Record.{Record}
use Rattle.network.specs.declared.weight.Weight.{Weight}
use Rattle.network.specs.Costs.{LawfulWeight}
use Rattle.network.specs.Networks.{Arc, arc}
use Rattle.network.specs.Records.{Counted, LawfulRecord}
use Rattle.takeoff.specs.declared.header.Header.{Header}
use Rattle.takeoff.specs.Answers.{Holds, FrontCounted}
use Rattle.takeoff.specs.Takeoff.{Contents, Empty, Drawn, Aimed, Complete, Lawful, LawfulArc, header_of, arcs_of, weights_of}

-- records that say lawful segments and count their choices are lawful
lawful_kept : (n : ℕ) (arcs : List Arc) (rs : List Record) → AllByRecursion (LawfulArc n) arcs → map arc rs ≡ arcs → AllByRecursion Counted rs
    → (e : ℕ) → e < length rs → (d : Record) → LawfulRecord n (get_or rs e d)
lawful_kept n arcs rs each says choices e l d =
    let long : length rs ≡ length arcs = sym (length-map rs arc) ∙ ap length says in
    let this : get_or arcs e (arc d) ≡ arc (get_or rs e d) = ap (λ xs. get_or xs e (arc d)) (sym says) ∙ get_or-map arc rs e d (arc d) l in
    let a : LawfulArc n (arc (get_or rs e d)) = subst (LawfulArc n) this (All-get_or (LawfulArc n) arcs e (arc d) (omega (arith, long)) each) in
    record {
      rises = (a.1, a.0.head_inside);
      counted = All-get_or Counted rs e d l choices;
      ranged = a.0.ranged;
      apart = a.0.apart;
    }

-- what is asked of a header, its segments and its weights where a report is made of them
pub record Ready (h : Header) (rs : List Record) (ws : List Weight) : Type 0 where
  pub counted : (1 ≤ h.nodes) × (h.nodes ≤ 128)
  pub short : length rs ≤ 1024
  pub lawful : (e : ℕ) → e < length rs → (d : Record) → LawfulRecord h.nodes (get_or rs e d)
  pub start_inside : h.start < h.nodes
  pub target_inside : h.target < h.nodes
  pub few : length ws ≤ 16
  pub weighed : AllByRecursion LawfulWeight ws

pub ready : (c : Contents) → Complete c → Lawful c → (rs : List Record) (ws : List Weight) → map arc rs ≡ arcs_of c → AllByRecursion Counted rs → ws ≡ weights_of c → Ready (header_of c) rs ws
ready Empty whole l rs ws says counted is = absurd whole
ready (Drawn n arcs) whole l rs ws says counted is = absurd whole
ready (Aimed n arcs s t weights) whole l rs ws says counted is =
    let long : length rs ≡ length arcs = sym (length-map rs arc) ∙ ap length says in
    record {
      counted = l.0.counted;
      short = (let room = l.0.few in omega (arith, long));
      lawful = lawful_kept n arcs rs l.0.each says counted;
      start_inside = l.1.start_inside;
      target_inside = l.1.target_inside;
      few = subst (λ (xs : List Weight). length xs ≤ 16) (sym is) l.1.few;
      weighed = subst (AllByRecursion LawfulWeight) (sym is) l.1.each;
    }

pub map_some : (rs : List Record) → map (λ (r : Record). Some (arc r)) rs ≡ map Some (map arc rs)
map_some [] = refl
map_some (r ∷ rs) = ap (λ (xs : List (Option Arc)). Some (arc r) ∷ xs) (map_some rs)

-- the first of the places, as many as the header counts
module _ (c : Contents) (h : Header) (is : h ≡ header_of c) (before after : List Record) (old new : List Weight) (segments : Holds arc (arcs_of c) before after) (counted : FrontCounted c after) (weights : Holds (λ (w : Weight). w) (weights_of c) old new) where
  abbrev pub rs : List Record
  rs = take h.segments after

  abbrev pub ws : List Weight
  ws = take h.weights new

  as_many : h.segments ≡ length (arcs_of c)
  as_many = ap (λ (x : Header). x.segments) is

  as_many_weights : h.weights ≡ length (weights_of c)
  as_many_weights = ap (λ (x : Header). x.weights) is

  pub drawn : map arc rs ≡ arcs_of c
  drawn = ap (λ k. map arc (take k after)) as_many ∙ segments.front

  counts : AllByRecursion Counted rs
  counts = subst (λ k. AllByRecursion Counted (take k after)) (sym as_many) counted

  pub weighed : ws ≡ weights_of c
  weighed = ap (λ k. take k new) as_many_weights ∙ sym (map-id (take (length (weights_of c)) new)) ∙ weights.front

  pub can : Complete c → Lawful c → Ready h rs ws
  can whole lawful = subst (λ (x : Header). Ready x rs ws) (sym is) (ready c whole lawful rs ws drawn counts weighed)
