-- An evolution taken back: the older edges and versions are the first ones that are kept.
use Rattle.std.proofs.Common.{◌≡◌, ℕ, ◌+◌, ◌-◌, List, [], ◌∷◌, ◌++◌, refl, sym, ap, ◌∙◌, subst, length, take, drop, arith}
use Rattle.std.proofs.Math.Seq.{take-append_seam, drop-append_seam}
use Rattle.std.proofs.lemmas.List.{map-append, reverse-append, take-append-drop, length-append, length-take-le, append_assoc}
use mathlib.Core.List.{reverse}
use Rattle.version_graph.specs.Edges.{Drawn}
use Rattle.version_graph.specs.Evolve.{grown, placed_next, IsEvolvedFrom}
use Rattle.version_graph.specs.Kept.{placed_in, edges_of, AreRight}
use Rattle.version_graph.specs.declared.parts.Edge.{Edge}
use Rattle.version_graph.specs.declared.parts.Placed.{Placed}
use Rattle.version_graph.specs.declared.node.Node.{Node}
use Rattle.version_graph.proofs.EvolveLaws.{length_edges, drawn_is}

module _ {O : Type 0} where
  -- new edges stand in front of the older ones
  pub grown_ends : (es : List (Placed O)) (p o t : ℕ) (edges : List (Edge O)) → (newer : List (Placed O)) × (grown es p o t edges ≡ newer ++ es)
  grown_ends es p o t [] = ([], refl)
  grown_ends es p o t (e ∷ edges) =
      let new = placed_next p o t e in
      let rest = grown_ends (new ∷ es) (o + 1) (o + 1) (t + length e.targets) edges in
      (rest.0 ++ (new ∷ []), rest.1 ∙ sym (append_assoc rest.0 (new ∷ []) es))

  right_ends : (ns ms : List (Node O)) → AreRight (ns ++ ms) → AreRight ms
  right_ends [] ms h = h
  right_ends (n ∷ ns) ms h = right_ends ns ms h.1

  pub halves : (k : ℕ) (nodes : List (Node O)) → reverse nodes ≡ reverse (drop k nodes) ++ reverse (take k nodes)
  halves k nodes = sym (ap (λ (l : List (Node O)). reverse l) (take-append-drop k nodes)) ∙ reverse-append (take k nodes) (drop k nodes)

  pub front_right : (k : ℕ) (nodes : List (Node O)) → AreRight (reverse nodes) → AreRight (reverse (take k nodes))
  front_right k nodes h = right_ends (reverse (drop k nodes)) (reverse (take k nodes)) (subst (λ (l : List (Node O)). AreRight l) (halves k nodes) h)

  -- the first nodes have the older edges
  pub front_edges : (k : ℕ) (nodes : List (Node O)) (newer es : List (Placed O)) → edges_of nodes ≡ newer ++ es → k ≡ length es → edges_of (take k nodes) ≡ es
  front_edges k nodes newer es is count =
      let a = placed_in (reverse (drop k nodes)) in
      let b = edges_of (take k nodes) in
      let both : a ++ b ≡ newer ++ es = sym (map-append (λ (n : Node O). n.placed) (reverse (drop k nodes)) (reverse (take k nodes))) ∙ sym (ap placed_in (halves k nodes)) ∙ is in
      let all : length nodes ≡ length newer + length es = sym (length_edges nodes) ∙ ap length is ∙ length-append newer es in
      let few : length b ≡ k = length_edges (take k nodes) ∙ length-take-le k nodes (omega (arith, all, count)) in
      let sum : length a + length b ≡ length newer + length es = sym (length-append a b) ∙ ap length both ∙ length-append newer es in
      let same : length a ≡ length newer = omega (arith, sum, few, count) in
      sym (drop-append_seam a b) ∙ ap (λ (l : List (Placed O)). drop (length a) l) both ∙ ap (λ (n : ℕ). drop n (newer ++ es)) same ∙ drop-append_seam newer es

-- the older versions are the first ones
pub front_versions : {V : Type 0} (old more : List V) (v : V) (count : ℕ) → more ≡ old ++ v ∷ [] → count ≡ length more → take (count - 1) more ≡ old
front_versions {V} old more v count is counted =
    let long : count ≡ length old + 1 = counted ∙ ap (λ (l : List V). length l) is ∙ length-append old (v ∷ []) in
    let one : count - 1 ≡ length old = omega (arith, long) in
    ap (λ (n : ℕ). take n more) one ∙ ap (λ (l : List V). take (length old) l) is ∙ take-append_seam old (v ∷ [])

-- what is kept of a graph that was evolved is the graph before
pub back_to : {O : Type 0} (before now : Drawn O) (nodes kept : List (Node O)) (operators last_operator last_table count : ℕ) (versions : List (List ℕ × ℕ)) → IsEvolvedFrom before operators last_operator last_table now
    → now.edges ≡ edges_of nodes → kept ≡ take operators nodes → count ≡ length now.versions → versions ≡ take (count - 1) now.versions
    → record { edges = edges_of kept; versions = versions; last_operator = last_operator; last_table = last_table } ≡ before
back_to {O} before now nodes kept operators last_operator last_table count versions was edges front counted named =
    let made = was.evolved in
    let ends = grown_ends before.edges made.1 before.last_operator before.last_table made.2 in
    let grows : edges_of nodes ≡ ends.0 ++ before.edges = sym edges ∙ ap (λ (g : Drawn O). g.edges) made.3 ∙ ends.1 in
    let es : edges_of kept ≡ before.edges = ap (λ (l : List (Node O)). edges_of l) front ∙ front_edges operators nodes ends.0 before.edges grows was.counted in
    let vs : versions ≡ before.versions = named ∙ front_versions before.versions now.versions (made.0, before.last_operator + length made.2) count (ap (λ (g : Drawn O). g.versions) made.3) counted in
    drawn_is es vs was.operator was.table
