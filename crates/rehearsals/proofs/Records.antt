-- A test whether records make a table. Assumes nothing.
use Rattle.std.proofs.Common.{◌≡◌, ℕ, Bool, true, ◌&&◌, leb, List, [], ◌∷◌, map, length, sym, refl, ap, ◌∙◌, arith}
use Rattle.std.proofs.lemmas.List.{length-map}
use Rattle.std.proofs.ByRecursion.{All-get_or}
use Rattle.std.proofs.lemmas.Bool.{and_parts, leb-true}
use Rattle.network.specs.declared.record.Record.{Record}
use Rattle.network.specs.Networks.{Arc, arc}
use Rattle.network.specs.Records.{LawfulRecord}
use Rattle.sources.specs.Filling.{Accepted}
use Rattle.rehearsals.specs.Said.{said}
use Rattle.samples.proofs.Rules.{lawful?, lawful_passed}
use Rattle.samples.proofs.Tests.{each?, each_passed}

abbrev said? : ℕ → ℕ × Arc → Bool
said? n (count, a) = (leb 1 count && leb count 8) && lawful? n a

abbrev record? : ℕ → Record → Bool
record? n r = said? n (said r)

record_passed : (n : ℕ) (r : Record) → record? n r ≡ true → LawfulRecord n r
record_passed n r t =
    let both = and_parts (leb 1 r.count && leb r.count 8) (lawful? n (arc r)) t in
    let counted = and_parts (leb 1 r.count) (leb r.count 8) both.0 in
    let lawful = lawful_passed n (arc r) both.1 in
    record {
      rises = (lawful.1, lawful.0.head_inside);
      counted = (leb-true 1 r.count counted.0, leb-true r.count 8 counted.1);
      ranged = lawful.0.ranged;
      apart = lawful.0.apart;
    }

each_said : (n : ℕ) (rs : List Record) → each? (record? n) rs ≡ each? (said? n) (map said rs)
each_said n [] = refl
each_said n (r ∷ rs) = ap (λ b. record? n r && b) (each_said n rs)

-- the test goes by what the records say
abbrev pub records? : ℕ → List (ℕ × Arc) → Bool
records? n xs = (leb 1 n && leb n 128) && (leb (length xs) 1024 && each? (said? n) xs)

pub records_passed : (n : ℕ) (rs : List Record) (xs : List (ℕ × Arc)) → map said rs ≡ xs → records? n xs ≡ true → Accepted n rs
records_passed n rs xs say t =
    let both = and_parts (leb 1 n && leb n 128) (leb (length xs) 1024 && each? (said? n) xs) t in
    let nodes = and_parts (leb 1 n) (leb n 128) both.0 in
    let each = and_parts (leb (length xs) 1024) (each? (said? n) xs) both.1 in
    let long : length rs ≡ length xs = sym (length-map rs said) ∙ ap length say in
    record {
      counted = (leb-true 1 n nodes.0, leb-true n 128 nodes.1);
      short = (let few = leb-true (length xs) 1024 each.0 in omega (arith, few, long));
      lawful = λ e l. All-get_or (LawfulRecord n) rs e _ l (each_passed (record? n) (LawfulRecord n) (record_passed n) rs (each_said n rs ∙ ap (each? (said? n)) say ∙ each.1));
    }
