use Rattle.std.proofs.Common.{◌/◌, ◌%◌, ◌++◌, ◌∷◌, [], ℕ, List, get_or, ap, ◌∙◌, arith}
use Rattle.std.specs.Fmt.{decimal}
use Rattle.swim_wire.specs.Text.{dotted}
use Rattle.swim_shell.proofs.Printing.{dotted_parts, endpoint_parts, port_short, two}
use Rattle.swim_shell.proofs.printer.add_endpoint.Goals as goal

pub returns-clause-fits : goal.returns-clause-fits
returns-clause-fits c room =
    let old = c.args.answer.now.bytes in
    let bytes = c.to_be_bytes.result in
    let port = c.from.result in
    let short = port_short port (omega (arith, c.from.ensures, c.port.type_inv)) in
    let one = c.add_part.ensures.fits (omega (arith, room)) in
    let second = c.add_part-2.ensures.fits (omega (arith, room, c.add_part.ensures.most)) in
    let third = c.add_part-3.ensures.fits (omega (arith, room, c.add_part.ensures.most, c.add_part-2.ensures.most)) in
    let fourth = c.add_part-4.ensures.fits (omega (arith, room, c.add_part.ensures.most, c.add_part-2.ensures.most, c.add_part-3.ensures.most)) in
    let last = c.add_number.ensures.fits (omega (arith, room, short, c.add_part.ensures.most, c.add_part-2.ensures.most, c.add_part-3.ensures.most, c.add_part-4.ensures.most)) in
    let ended : ℕ → ℕ → List ℕ = λ n end. decimal n ++ end ∷ [] in
    let from_fourth : List ℕ = ended (get_or bytes 3 0) 58 ++ decimal port in
    let from_third : List ℕ = ended (get_or bytes 2 0) 46 ++ from_fourth in
    let from_second : List ℕ = ended (get_or bytes 1 0) 46 ++ from_third in
    let all = c.add_number.new.answer.bytes in
    let after_third = two c.add_part-3.new.answer.bytes c.add_part-4.new.answer.bytes all (ended (get_or bytes 3 0) 58) (decimal port) fourth last in
    let after_second = two c.add_part-2.new.answer.bytes c.add_part-3.new.answer.bytes all (ended (get_or bytes 2 0) 46) from_fourth third after_third in
    let after_first = two c.add_part.new.answer.bytes c.add_part-2.new.answer.bytes all (ended (get_or bytes 1 0) 46) from_third second after_second in
    two old c.add_part.new.answer.bytes all (ended (get_or bytes 0 0) 46) from_second one after_first
    ∙ ap (λ (w : List ℕ). old ++ w) (dotted_parts (get_or bytes 0 0) (get_or bytes 1 0) (get_or bytes 2 0) (get_or bytes 3 0) port)
    ∙ ap (λ (l : List ℕ). old ++ dotted (get_or l 0 0) (get_or l 1 0) (get_or l 2 0) (get_or l 3 0) port) c.to_be_bytes.ensures
    ∙ ap (λ (n : ℕ). old ++ dotted (c.address.result / 16777216 % 256) (c.address.result / 65536 % 256) (c.address.result / 256 % 256) (c.address.result % 256) n) (c.from.ensures ∙ c.port.ensures.value)
    ∙ ap (λ (w : List ℕ). old ++ w) (endpoint_parts c.args.endpoint c.address.result c.address.ensures (omega arith))

pub returns-clause-most : goal.returns-clause-most
returns-clause-most c =
    let short = port_short c.from.result (omega (arith, c.from.ensures, c.port.type_inv)) in
    omega (arith, short, c.add_part.ensures.most, c.add_part-2.ensures.most, c.add_part-3.ensures.most, c.add_part-4.ensures.most, c.add_number.ensures.most)
