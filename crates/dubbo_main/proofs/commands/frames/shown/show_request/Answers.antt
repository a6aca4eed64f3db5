use Rattle.dubbo_main.proofs.Showing.{no_request_shown, request_shown}
use Rattle.dubbo_main.proofs.commands.frames.shown.show_request.Goals as goal

pub returns-in-Ok : goal.returns-in-Ok
returns-in-Ok c = request_shown c.write_request.result c.args.header.now c.args.body.now c.in-Ok.request c.args.text.now.items c.write_request.new.text.items
    c.requires c.in-Ok.ensures.ok c.write_request.ensures

pub returns-in-Err : goal.returns-in-Err
returns-in-Err c = no_request_shown c.write_no_request.result c.args.header.now c.args.body.now c.in-Err.fault c.args.text.now.items c.write_no_request.new.text.items
    c.requires c.in-Err.ensures.refused c.in-Err.ensures.why c.write_no_request.ensures.told c.write_no_request.ensures.written
