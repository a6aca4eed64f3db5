use Rattle.dubbo_main.proofs.Showing.{no_reply_shown, reply_shown}
use Rattle.dubbo_main.proofs.commands.frames.shown.show_reply.Goals as goal

pub returns-in-Ok : goal.returns-in-Ok
returns-in-Ok c = reply_shown c.write_reply.result c.args.header.now c.args.body.now c.in-Ok.reply c.args.text.now.items c.write_reply.new.text.items
    c.requires c.in-Ok.ensures.ok c.write_reply.ensures

pub returns-in-Err : goal.returns-in-Err
returns-in-Err c = no_reply_shown c.write_no_reply.result c.args.header.now c.args.body.now c.in-Err.fault c.args.text.now.items c.write_no_reply.new.text.items
    c.requires c.in-Err.ensures.refused c.in-Err.ensures.why c.write_no_reply.ensures.told c.write_no_reply.ensures.written
