-- A test of a takeoff's rules, and what it makes of the takeoff's file. Assumes nothing.
use Rattle.std.proofs.Common.{◌≡◌, ℕ, Bool, true, ◌&&◌, ltb, leb, List, length, sym, ◌∙◌}
use Rattle.std.proofs.lemmas.Bool.{and_parts, leb-true, ltb-true}
use Rattle.network.specs.declared.weight.Weight.{Weight}
use Rattle.network.specs.Costs.{LawfulWeight}
use Rattle.network.specs.Networks.{Arc}
use Rattle.takeoff.specs.Takeoff.{Contents, Complete, Empty, Drawn, Aimed, Lawful, LawfulAim, LawfulArc, LawfulDrawing, encode}
use Rattle.takeoff.proofs.Unique.{one_file}
use Rattle.samples.specs.Files.{FileOf}
use Rattle.samples.proofs.Rules.{lawful?, lawful_passed}
use Rattle.samples.proofs.Tests.{each?, each_passed}
use Rattle.samples.proofs.Weighing.{lawful_weight?, lawful_weight_passed}

abbrev drawing? : ℕ → List Arc → Bool
drawing? n arcs = (leb 1 n && leb n 128) && (leb (length arcs) 1024 && each? (lawful? n) arcs)

drawing_passed : (n : ℕ) (arcs : List Arc) → drawing? n arcs ≡ true → LawfulDrawing n arcs
drawing_passed n arcs t =
    let both = and_parts (leb 1 n && leb n 128) (leb (length arcs) 1024 && each? (lawful? n) arcs) t in
    let nodes = and_parts (leb 1 n) (leb n 128) both.0 in
    let drawn = and_parts (leb (length arcs) 1024) (each? (lawful? n) arcs) both.1 in
    record {
      counted = (leb-true 1 n nodes.0, leb-true n 128 nodes.1);
      few = leb-true (length arcs) 1024 drawn.0;
      each = each_passed (lawful? n) (LawfulArc n) (lawful_passed n) arcs drawn.1;
    }

abbrev aim? : ℕ → ℕ → ℕ → List Weight → Bool
aim? n s t ws = (ltb s n && ltb t n) && (leb (length ws) 16 && each? lawful_weight? ws)

aim_passed : (n s t : ℕ) (ws : List Weight) → aim? n s t ws ≡ true → LawfulAim n s t ws
aim_passed n s t ws passed =
    let both = and_parts (ltb s n && ltb t n) (leb (length ws) 16 && each? lawful_weight? ws) passed in
    let ends = and_parts (ltb s n) (ltb t n) both.0 in
    let weights = and_parts (leb (length ws) 16) (each? lawful_weight? ws) both.1 in
    record {
      start_inside = ltb-true s n ends.0;
      target_inside = ltb-true t n ends.1;
      few = leb-true (length ws) 16 weights.0;
      each = each_passed lawful_weight? LawfulWeight lawful_weight_passed ws weights.1;
    }

abbrev pub takeoff? : Contents → Bool
takeoff? Empty = true
takeoff? (Drawn n arcs) = drawing? n arcs
takeoff? (Aimed n arcs s t ws) = drawing? n arcs && aim? n s t ws

takeoff_passed : (c : Contents) → takeoff? c ≡ true → Lawful c
takeoff_passed Empty t = tt
takeoff_passed (Drawn n arcs) t = drawing_passed n arcs t
takeoff_passed (Aimed n arcs s e ws) t =
    let both = and_parts (drawing? n arcs) (aim? n s e ws) t in
    (drawing_passed n arcs both.0, aim_passed n s e ws both.1)

pub file_of : (bytes : List ℕ) (c : Contents) → Complete c → takeoff? c ≡ true → bytes ≡ encode c → FileOf bytes c
file_of bytes c complete t says =
    let lawful = takeoff_passed c t in
    record { complete = complete; lawful = lawful; says = says; alone = λ d other e. one_file d c other lawful (sym e ∙ says) }
