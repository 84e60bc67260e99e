mod Called
mod Headed
mod Noted
mod Told
