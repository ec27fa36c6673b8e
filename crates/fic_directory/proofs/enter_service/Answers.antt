-- Written at its place, or left out.
use Rattle.std.proofs.Common.{refl, ◌∙◌}
use Rattle.fic_directory.proofs.Services.{shifted, left_out, entered_at}
use Rattle.fic_directory.proofs.enter_service.Goals as goal

pub returns-in_default : goal.returns-in_default
returns-in_default c = left_out c.args.wide c.args.entry.now c.args.services.now c.told-services c.service_key-key.result c.service_key-key.ensures c.in_default.ensures

pub returns : goal.returns
returns c =
    entered_at c.args.wide c.args.entry.now c.args.services.now c.told-services c.service_key-key.result c.in-Some.place _ c.service_key-key.ensures c.in-Some.ensures
    (c.copy_from_slice.ensures.after
    ∙ shifted c.args.wide c.args.entry.now _ c.sid_bytes.result c.service_key-key.result c.as_chunks.result.0.now c.requires c.sid_bytes.ensures refl c.as_chunks.ensures.front c.service_key-key.ensures.is _ _ _
    c.four.ensures c.four-2.ensures c.four-3.ensures)
