use Rattle.dubbo_bodies.proofs.FieldArms.{fields_begin}
use Rattle.dubbo_bodies.proofs.request_reader.fields.FieldPart.next.Goals as goal

pub returns-clause-stands : goal.returns-clause-stands
returns-clause-stands c = λ header fed b. fields_begin (record { texts = c.args.texts; text = c.new.result; from = c.args.at }) header fed c.new.ensures b
