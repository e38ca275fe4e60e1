mod Accounts
mod Told
