mod Noted
mod Told
