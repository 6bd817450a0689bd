use Rattle.std.proofs.Common.{◌≡◌, ◌≤◌, ℕ, List, [], length, drop, ap, arith}
use Rattle.std.proofs.lemmas.Bool.Decides.{nat_tests}
use Rattle.std.proofs.lemmas.List.{length-drop}
use Rattle.swim_shell.proofs.answer_writer.AnswerWriter.has_written.Goals as goal

few : (xs : List ℕ) (n : ℕ) → drop n xs ≡ [] → length xs ≤ n
few xs n none = let zero : length (drop n xs) ≡ 0 = ap length none in omega (arith, length-drop n xs, zero)

pub returns-clause-no : goal.returns-clause-no
returns-clause-no g c =
    λ no none.
    let most = few c.args.self.now.answer.bytes c.args.self.now.written none in
    grind (arith, nat_tests, most, no, c.len.ensures)
