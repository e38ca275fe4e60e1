mod Pages
mod Rooms
mod Spaces
